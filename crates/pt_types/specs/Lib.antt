pub mod Listing
pub mod Tables
pub mod Types
pub mod inner
