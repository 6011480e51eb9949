pub mod Evaluations
pub mod Found
pub mod Laws
pub mod Sets
