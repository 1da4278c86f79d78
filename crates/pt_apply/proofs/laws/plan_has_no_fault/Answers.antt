use Rattle.pt_apply.proofs.OneReading.{plan_faultless}
use Rattle.pt_apply.proofs.laws.plan_has_no_fault.Goals as goal

pub returns : goal.returns
returns c = plan_faultless
