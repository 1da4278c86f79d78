use Rattle.pt_plan.proofs.StaysWhole.{stays_whole_lem}
use Rattle.pt_plan.proofs.laws.primary_stays_whole.Goals as goal

pub returns : goal.returns
returns c = stays_whole_lem
