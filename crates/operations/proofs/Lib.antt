pub mod Rows
pub mod CallRows
pub mod OperatorRows
pub mod BuiltInRows
pub mod NameRows
pub mod StringRows
