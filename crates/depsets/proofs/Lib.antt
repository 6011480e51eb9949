pub mod Keys
mod Refused
pub mod Skip
pub mod Turns
pub mod TypeLemmas
pub mod Walked
pub mod Crossing
mod Lent
