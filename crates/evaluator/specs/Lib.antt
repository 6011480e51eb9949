pub mod Callees
pub mod Walked
