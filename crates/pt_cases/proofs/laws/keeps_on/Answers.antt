use Rattle.pt_cases.proofs.Terms.{keeps_trans}
use Rattle.pt_cases.proofs.laws.keeps_on.Goals as goal

pub returns : goal.returns
returns c = keeps_trans
