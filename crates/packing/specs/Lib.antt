pub mod Folders
pub mod Inputs
pub mod Packs
pub mod Walks
pub mod Writing
pub mod Refusals
