pub mod Groups
pub mod StartView
pub mod CurrentView
