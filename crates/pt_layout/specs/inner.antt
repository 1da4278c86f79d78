pub mod Sound
pub mod Surveys
