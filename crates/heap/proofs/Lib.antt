pub mod CellLemmas
pub mod LawLemmas
