pub mod Alike
pub mod Denotes
pub mod FromSides
pub mod Sentences
pub mod Spans
pub mod inner
