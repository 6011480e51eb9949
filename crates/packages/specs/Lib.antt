pub mod Packages
pub mod Built
pub mod Kept
pub mod Seen
