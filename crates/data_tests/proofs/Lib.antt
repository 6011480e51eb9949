pub mod MayCross
pub mod NoLabels
