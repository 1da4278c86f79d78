pub mod Claims
pub mod Given
pub mod Listed
pub mod Replies
pub mod Tables
pub mod Wanted
pub mod inner
