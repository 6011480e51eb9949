pub mod Affixes
pub mod Answers
pub mod Indexes
pub mod Joining
pub mod Meaning
pub mod Parts
pub mod Splitting
pub mod Texts
