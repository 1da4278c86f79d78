pub mod Device
pub mod Overlays
pub mod Sectors
pub mod Sentences
pub mod inner
