pub mod GivenNames
pub mod Numbers
pub mod Places
pub mod Ended
mod Given
mod Renamed
mod FirstKeys
