pub mod Filled
pub mod ActiveView
pub mod LinkedView
pub mod CallView
pub mod RunView
