pub mod Implementations
pub mod Programs
