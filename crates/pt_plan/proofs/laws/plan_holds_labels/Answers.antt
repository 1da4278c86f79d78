use Rattle.pt_plan.proofs.EveryPlan.{plan_labels}
use Rattle.pt_plan.proofs.laws.plan_holds_labels.Goals as goal

pub returns : goal.returns
returns c = plan_labels
