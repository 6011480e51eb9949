pub mod Journal
pub mod Lawful
pub mod Rule
pub mod Steps
pub mod Seats
pub mod Answers
pub mod Views
pub mod Flags
