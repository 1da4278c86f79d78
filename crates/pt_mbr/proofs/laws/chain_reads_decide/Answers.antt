use Rattle.pt_mbr.proofs.Terms.{chain_reads_decide}
use Rattle.pt_mbr.proofs.laws.chain_reads_decide.Goals as goal

pub returns : goal.returns
returns c = chain_reads_decide
