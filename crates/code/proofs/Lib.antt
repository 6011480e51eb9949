pub mod Backwards
pub mod Forwards
pub mod Parts
pub mod Clauses
