pub mod Effects
pub mod Entering
pub mod Terms
pub mod Blocks
pub mod Calls
