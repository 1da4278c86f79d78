use Rattle.pt_plan.proofs.PlanCalls.{plan_carries_lem}
use Rattle.pt_plan.proofs.runs.laws.apply_checked_carries.Goals as goal

pub returns : goal.returns
returns c = plan_carries_lem
