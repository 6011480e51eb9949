pub mod Places
pub mod Plans
pub mod Settles
pub mod Outcomes
pub mod Gathers
