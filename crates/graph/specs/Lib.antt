pub mod Same
pub mod Reached
pub mod Graphs
pub mod Numbering
pub mod Laws
