pub mod Copies
pub mod Entries
pub mod Sentences
pub mod inner
