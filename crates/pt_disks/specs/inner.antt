pub mod Devices
pub mod ForFields
pub mod Stops
