pub mod ForFields
pub mod Sectors
