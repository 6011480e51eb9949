pub mod Given
pub mod Ran
