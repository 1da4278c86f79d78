use Rattle.pt_apply.proofs.OneReading.{plan_one}
use Rattle.pt_apply.proofs.laws.plan_is_one.Goals as goal

pub returns : goal.returns
returns c = plan_one
