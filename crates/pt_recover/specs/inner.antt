pub mod Denotes
pub mod Spans
