pub mod Areas
pub mod Made
pub mod Staged
pub mod Wanting
