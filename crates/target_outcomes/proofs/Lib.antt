pub mod After
pub mod Lists
pub mod Steps
