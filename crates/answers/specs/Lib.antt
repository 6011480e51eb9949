pub mod Answers
pub mod Nodes
pub mod Reports
pub mod Laws
