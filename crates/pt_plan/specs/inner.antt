pub mod Commits
pub mod Layouts
pub mod Sessions
