pub mod ForFields
pub mod Given
pub mod Replies
pub mod Tables
pub mod Wanted
