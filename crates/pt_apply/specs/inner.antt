pub mod PlanTexts
pub mod Plans
