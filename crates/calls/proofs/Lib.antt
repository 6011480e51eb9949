pub mod Binds
pub mod Tuples
pub mod NumberTexts
