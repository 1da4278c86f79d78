use Rattle.pt_plan.proofs.PhasesLemmas.{plan_ascends_lem}
use Rattle.pt_plan.proofs.laws.plan_ascends.Goals as goal

pub returns : goal.returns
returns c = plan_ascends_lem
