use Rattle.pt_apply.proofs.OneReading.{fault_one}
use Rattle.pt_apply.proofs.laws.text_fault_is_one.Goals as goal

pub returns : goal.returns
returns c = fault_one
