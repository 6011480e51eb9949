pub mod Equal
pub mod Freeze
pub mod Revisit
