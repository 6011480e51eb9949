pub mod Growth
pub mod Rows
pub mod Carried
pub mod Outcomes
