pub mod Crossing
pub mod Fields
pub mod Parts
pub mod BlockLemmas
pub mod ElementPaths
pub mod Rows
