pub mod Finite
pub mod Kept
pub mod Owners
pub mod Together
