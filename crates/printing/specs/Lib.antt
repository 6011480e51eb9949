pub mod TreeTexts
pub mod Repr
