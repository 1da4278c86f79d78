pub mod Beginning
pub mod Reading
pub mod Splits
pub mod Standings
pub mod Sums
pub mod Writes
