pub mod Devices
pub mod Memory
pub mod Reading
pub mod Sentences
pub mod Stops
pub mod Stores
pub mod inner
