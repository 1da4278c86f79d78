use Rattle.pt_bsd.proofs.Terms.{no_label}
use Rattle.pt_bsd.proofs.laws.fault_is_no_label.Goals as goal

pub returns : goal.returns
returns c = no_label
