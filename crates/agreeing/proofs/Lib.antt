pub mod Effects
pub mod Terms
pub mod Blocks
pub mod Calls
