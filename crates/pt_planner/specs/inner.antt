pub mod Kept
pub mod NewMbr
pub mod Phases
pub mod Places
pub mod PlanReads
