pub mod WalkLemmas
pub mod InputTexts
pub mod WritingLemmas
pub mod SizesLemmas
