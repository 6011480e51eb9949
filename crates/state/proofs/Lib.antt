pub mod Turns
pub mod Walked
pub mod Sizes
pub mod KeyLemmas
