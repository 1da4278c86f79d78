pub mod Opened
pub mod ReadSoFar
pub mod Texts
pub mod TextsRead
