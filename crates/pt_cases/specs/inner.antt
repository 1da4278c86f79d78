pub mod Targets
pub mod Unplanned
