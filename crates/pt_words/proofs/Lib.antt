pub mod Answered
pub mod Cuts
pub mod NoMemory
pub mod Values
