pub mod Lines
pub mod Answers
pub mod Seen
pub mod Reported
