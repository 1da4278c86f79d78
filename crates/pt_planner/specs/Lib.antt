pub mod Phases
pub mod Places
pub mod PlanReads
pub mod inner
