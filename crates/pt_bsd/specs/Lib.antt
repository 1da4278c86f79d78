pub mod Labels
pub mod Sentences
pub mod inner
