pub mod Replies
pub mod Shown
pub mod Statuses
pub mod inner
