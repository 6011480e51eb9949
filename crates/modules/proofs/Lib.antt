pub mod Lookups
pub mod ByNumber
pub mod Doing
pub mod Outcomes
pub mod Founds
pub mod Longer
