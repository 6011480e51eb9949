pub mod Parameters
pub mod Answered
pub mod Pairs
pub mod NumberTexts
