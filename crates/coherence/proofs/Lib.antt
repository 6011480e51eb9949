pub mod Homes
pub mod Firsts
pub mod Handed
