pub mod Found
pub mod Workspaces
pub mod Laws
