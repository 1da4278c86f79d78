use Rattle.pt_plan.proofs.Following.{followed_is_one_lem}
use Rattle.pt_plan.proofs.laws.followed_is_one.Goals as goal

pub returns : goal.returns
returns c = followed_is_one_lem
