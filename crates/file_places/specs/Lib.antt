pub mod Methods
pub mod ModulePlace
pub mod BuildPlace
