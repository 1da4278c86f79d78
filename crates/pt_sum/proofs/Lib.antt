pub mod Chunks
pub mod Eight
pub mod Linear
pub mod TableFacts
pub mod Terms
