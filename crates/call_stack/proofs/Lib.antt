pub mod Lists
pub mod Named
pub mod Parameters
pub mod Positions
pub mod CallSteps
pub mod Moving
