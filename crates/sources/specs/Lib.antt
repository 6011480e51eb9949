pub mod Listed
pub mod Kept
pub mod Done
