use Rattle.pt_cases.proofs.Mended.{mendable_by_plan_lem}
use Rattle.pt_cases.proofs.exact.mendable_by_plan.Goals as goal

pub returns : goal.returns
returns c = mendable_by_plan_lem
