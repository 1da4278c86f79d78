pub mod Window
pub mod Within
pub mod inner
