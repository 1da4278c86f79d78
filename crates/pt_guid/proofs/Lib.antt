pub mod Halves
pub mod Rows
pub mod Table
pub mod Terms
