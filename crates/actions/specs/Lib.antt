pub mod Ascending
pub mod Codes
