pub mod Healthy
pub mod Sentences
pub mod Sound
pub mod Surveys
pub mod inner
