pub mod LabelLemmas
pub mod LabelLaws
pub mod KeptLabels
pub mod WorkspaceLemmas
mod PathLemmas
