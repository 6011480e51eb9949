mod Rows
pub mod Distinct
