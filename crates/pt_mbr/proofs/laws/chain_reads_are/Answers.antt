use Rattle.pt_mbr.proofs.Terms.{chain_reads_are, fault_reads_are}
use Rattle.pt_mbr.proofs.laws.chain_reads_are.Goals as goal

pub returns : goal.returns
returns c = record { chain = chain_reads_are; fault = fault_reads_are }
