pub mod ByPlace
pub mod Placed
pub mod Works
pub mod Offered
pub mod Fields
pub mod Actions
