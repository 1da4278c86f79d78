pub mod Chain
pub mod Changes
pub mod Records
pub mod Sentences
pub mod inner
