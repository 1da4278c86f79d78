use Rattle.pt_recover.proofs.Terms.{reads_decide_lem}
use Rattle.pt_recover.proofs.laws.reads_decide.Goals as goal

pub returns : goal.returns
returns c = reads_decide_lem
