pub mod Follow
pub mod inner
