use Rattle.pt_plan.proofs.EveryPlan.{plan_not_refused}
use Rattle.pt_plan.proofs.laws.plan_is_never_refused.Goals as goal

-- src/runs/laws.rt
pub returns : goal.returns
returns c = plan_not_refused
