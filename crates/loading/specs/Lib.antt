pub mod Loads
pub mod Modules
pub mod Together
pub mod Laws
