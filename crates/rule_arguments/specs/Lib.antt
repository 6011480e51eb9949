pub mod Freezing
pub mod GivenCode
