use Rattle.pt_bsd.proofs.Terms.{fault_one}
use Rattle.pt_bsd.proofs.laws.label_fault_is_one.Goals as goal

pub returns : goal.returns
returns c = fault_one
