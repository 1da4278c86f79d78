pub mod PlanTexts
pub mod Plans
pub mod Sentences
pub mod inner
