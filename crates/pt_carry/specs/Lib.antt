pub mod Carries
pub mod Data
pub mod Runs
pub mod Sentences
pub mod inner
