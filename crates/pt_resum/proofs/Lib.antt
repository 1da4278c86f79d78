pub mod Changes
pub mod Columns
pub mod StepFacts
