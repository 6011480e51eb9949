pub mod CommandLine
pub mod Asked
pub mod Input
pub mod InputTokens
