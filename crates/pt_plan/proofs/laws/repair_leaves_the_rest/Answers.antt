use Rattle.pt_plan.proofs.Leaving.{repair_leaves_lem}
use Rattle.pt_plan.proofs.laws.repair_leaves_the_rest.Goals as goal

pub returns : goal.returns
returns c = repair_leaves_lem
