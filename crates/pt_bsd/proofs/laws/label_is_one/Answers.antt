use Rattle.pt_bsd.proofs.Terms.{label_one}
use Rattle.pt_bsd.proofs.laws.label_is_one.Goals as goal

pub returns : goal.returns
returns c = label_one
