pub mod Placing
pub mod Named
pub mod Depsets
mod Small
mod FieldRows
mod ActionRows
mod Declared
