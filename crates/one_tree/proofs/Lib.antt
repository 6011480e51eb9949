pub mod Amidst
pub mod Changed
pub mod Freezes
pub mod Held
pub mod News
pub mod Rows
