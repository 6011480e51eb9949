pub mod ExtentLemmas
pub mod SeeLemmas
pub mod VisitLemmas
pub mod KeyListLemmas
pub mod Crossing
