pub mod Outlines
pub mod BuiltView
pub mod FormView
