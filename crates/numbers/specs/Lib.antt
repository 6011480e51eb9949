pub mod Arithmetic
pub mod Division
pub mod Order
pub mod Places
pub mod Ranges
