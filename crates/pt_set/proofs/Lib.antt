pub mod Folding
pub mod Making
pub mod Numbers
pub mod Setting
pub mod Staging
pub mod Steps
pub mod Told
