pub mod GlobalCodes
pub mod Evaluated
pub mod Worlds
pub mod Naming
pub mod Runs
pub mod Workspaces
