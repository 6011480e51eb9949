pub mod Builds
pub mod Crossing
pub mod Kept
pub mod Loading
pub mod Tops
