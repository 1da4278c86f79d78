pub mod Entries
pub mod Fields
pub mod Free
pub mod Labels
pub mod Records
pub mod Shown
pub mod Text
pub mod inner
