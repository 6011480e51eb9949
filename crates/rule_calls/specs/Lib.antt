pub mod Each
pub mod Packages
pub mod Called
