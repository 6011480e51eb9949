pub mod Agreeing
pub mod Slots
