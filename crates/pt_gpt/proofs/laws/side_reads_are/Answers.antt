use Rattle.pt_gpt.proofs.Terms.{side_reads_head_lem, side_reads_fault_lem}
use Rattle.pt_gpt.proofs.laws.side_reads_are.Goals as goal

pub returns-clause-head : goal.returns-clause-head
returns-clause-head c = side_reads_head_lem

pub returns-clause-fault : goal.returns-clause-fault
returns-clause-fault c = side_reads_fault_lem
