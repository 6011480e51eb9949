pub mod Outputs
mod Rows
mod WholeRow
