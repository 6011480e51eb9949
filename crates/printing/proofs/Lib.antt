pub mod TreeTextLemmas
pub mod ReprLemmas
