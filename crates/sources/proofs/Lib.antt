pub mod Done
pub mod Ordered
pub mod Reading
