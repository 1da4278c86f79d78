use Rattle.pt_gpt.proofs.Terms.{side_reads_decide_lem}
use Rattle.pt_gpt.proofs.laws.side_reads_decide.Goals as goal

pub returns : goal.returns
returns c = side_reads_decide_lem
