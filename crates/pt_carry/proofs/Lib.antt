pub mod Carrying
pub mod Copies
pub mod Fitting
pub mod Moving
pub mod Reading
pub mod RunLines
pub mod Runs
