pub mod Tables
pub mod Evaluation
pub mod Loading
pub mod Modules
pub mod Found
