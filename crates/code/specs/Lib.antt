pub mod View
pub mod Emitted
