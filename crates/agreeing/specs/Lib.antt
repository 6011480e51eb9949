pub mod Agreed
pub mod Laws
