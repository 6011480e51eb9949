pub mod Implementing
pub mod Seen
