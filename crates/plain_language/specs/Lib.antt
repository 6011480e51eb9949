pub mod Methods
pub mod Language
pub mod Laws
