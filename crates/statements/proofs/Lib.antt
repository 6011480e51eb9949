pub mod OutlinesRead
pub mod OutlinesMade
pub mod OutlineLemmas
pub mod ReadLemmas
pub mod BuiltLemmas
