pub mod Codes
pub mod Guids
pub mod Sentences
