pub mod Coherent
pub mod Together
pub mod Laws
