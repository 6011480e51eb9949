pub mod Floors
pub mod Rows
pub mod Steps
