use Rattle.pt_types.proofs.Terms.{coded_agrees}
use Rattle.pt_types.proofs.laws.codes_agree.Goals as goal

pub returns : goal.returns
returns c = coded_agrees
