pub mod Kept
pub mod Owed
pub mod Laws
