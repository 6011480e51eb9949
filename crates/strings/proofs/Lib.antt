pub mod Ascii
pub mod Singles
pub mod Cuts
pub mod Finds
pub mod Firsts
pub mod Glued
pub mod Meanings
pub mod Rows
