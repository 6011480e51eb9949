pub mod Adding
pub mod Puts
pub mod Typed
pub mod Repeated
pub mod Named
pub mod Sharing
pub mod Steps
