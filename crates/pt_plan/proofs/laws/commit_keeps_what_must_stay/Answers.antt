use Rattle.pt_plan.proofs.Leaving.{commit_keeps_lem}
use Rattle.pt_plan.proofs.laws.commit_keeps_what_must_stay.Goals as goal

pub returns : goal.returns
returns c = commit_keeps_lem
