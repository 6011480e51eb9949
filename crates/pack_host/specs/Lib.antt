pub mod Endings
pub mod CommandLine
