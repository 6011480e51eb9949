pub mod Popping
pub mod Putting
pub mod Turning
