pub mod Keyed
pub mod Needed
pub mod Seen
pub mod Made
pub mod Returned
pub mod Unasked
