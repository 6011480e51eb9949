pub mod Tables
pub mod Files
pub mod Names
pub mod InOrder
pub mod Crossing
