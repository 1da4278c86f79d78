pub mod Members
pub mod Rows
pub mod Tables
pub mod inner
