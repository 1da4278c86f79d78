pub mod Edited
pub mod Entries
pub mod Free
pub mod Space
