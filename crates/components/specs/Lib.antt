pub mod Components
pub mod Search
pub mod Turns
