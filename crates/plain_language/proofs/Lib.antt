pub mod Methods
pub mod Agreeing
