pub mod ArraySteps
pub mod EntryEncoding
pub mod Faults
pub mod HeaderEncoding
pub mod Heads
pub mod Parts
mod Puts
pub mod Same
pub mod Terms
pub mod Written
