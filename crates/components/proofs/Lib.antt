pub mod Lists
pub mod Meeting
pub mod Following
pub mod Closing
pub mod Work
pub mod Resting
