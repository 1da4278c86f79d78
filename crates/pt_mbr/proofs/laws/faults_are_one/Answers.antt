use Rattle.pt_mbr.proofs.Terms.{fault_is_one}
use Rattle.pt_mbr.proofs.laws.faults_are_one.Goals as goal

pub returns : goal.returns
returns c = fault_is_one
