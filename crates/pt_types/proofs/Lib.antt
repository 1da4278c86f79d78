pub mod Digits
pub mod Finding
pub mod Found
pub mod Hex
pub mod TableFacts
pub mod Terms
