pub mod Stopped
pub mod Onward
pub mod Answers
pub mod Popped
pub mod Seen
pub mod Kept
