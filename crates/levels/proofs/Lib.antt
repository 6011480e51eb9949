pub mod Sorted
pub mod Settling
