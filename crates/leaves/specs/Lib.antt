pub mod Leaves
pub mod Lent
pub mod LeafCodes
