pub mod MadeBefore
pub mod Places
pub mod Files
pub mod Loaded
pub mod Tops
