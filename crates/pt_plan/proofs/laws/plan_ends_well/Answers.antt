use Rattle.pt_plan.proofs.EveryPlan.{plan_finishes}
use Rattle.pt_plan.proofs.laws.plan_ends_well.Goals as goal

-- src/runs/laws.rt
pub returns : goal.returns
returns c = plan_finishes
