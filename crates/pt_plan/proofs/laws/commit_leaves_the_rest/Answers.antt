use Rattle.pt_plan.proofs.Leaving.{commit_leaves_lem}
use Rattle.pt_plan.proofs.laws.commit_leaves_the_rest.Goals as goal

pub returns : goal.returns
returns c = commit_leaves_lem
