use Rattle.pt_plan.proofs.Leaving.{repair_keeps_lem}
use Rattle.pt_plan.proofs.laws.repair_keeps_what_must_stay.Goals as goal

pub returns : goal.returns
returns c = repair_keeps_lem
