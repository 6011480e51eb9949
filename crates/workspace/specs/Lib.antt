pub mod Paths
pub mod Labels
pub mod FileKinds
pub mod Workspaces
pub mod Files
