pub mod Keyed
pub mod Finding
pub mod Making
pub mod Returning
pub mod Lists
pub mod Unrefused
