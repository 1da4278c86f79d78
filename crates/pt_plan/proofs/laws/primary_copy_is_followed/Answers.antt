use Rattle.pt_plan.proofs.Following.{copy_is_followed}
use Rattle.pt_plan.proofs.laws.primary_copy_is_followed.Goals as goal

pub returns : goal.returns
returns c = copy_is_followed
