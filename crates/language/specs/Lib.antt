pub mod Attr
pub mod Place
pub mod Nothing
pub mod Language
pub mod Laws
