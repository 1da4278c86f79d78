pub mod Numbers
pub mod OneText
pub mod Paths
