pub mod Crossing
pub mod Ascending
