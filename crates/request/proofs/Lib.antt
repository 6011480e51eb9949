pub mod NumberLemmas
pub mod CommandLemmas
pub mod AskedLemmas
pub mod TokenLemmas
pub mod InputLemmas
