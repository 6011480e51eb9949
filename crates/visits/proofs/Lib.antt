pub mod EqualLemmas
pub mod RevisitLemmas
pub mod ExtentLemmas
