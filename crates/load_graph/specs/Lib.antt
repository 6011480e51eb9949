pub mod Paths
pub mod Plan
