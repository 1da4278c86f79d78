pub mod Places
pub mod Lines
pub mod Sizes
pub mod Names
pub mod Cells
pub mod Bar
pub mod Page
