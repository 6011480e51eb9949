pub mod Ticking
pub mod KindText
pub mod Extents
