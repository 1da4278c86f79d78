pub mod Codes
pub mod Hex
pub mod Names
pub mod Paths
pub mod Utf16
