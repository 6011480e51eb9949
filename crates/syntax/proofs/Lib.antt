pub mod DepthLemmas
pub mod ProgramLemmas
pub mod ScopeLemmas
