pub mod Rows
pub mod Trails
pub mod Heights
pub mod ByLoads
pub mod Sources
pub mod CycleLines
pub mod Kept
