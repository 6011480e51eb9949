pub mod LevelLemmas
pub mod NameLemmas
