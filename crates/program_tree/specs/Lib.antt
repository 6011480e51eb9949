pub mod Names
pub mod Resolved
pub mod ProgramView
pub mod ParsedView
