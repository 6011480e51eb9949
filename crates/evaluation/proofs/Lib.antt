pub mod Bound
mod Small
mod ModuleRows
mod WorkspaceRows
mod TargetRows
