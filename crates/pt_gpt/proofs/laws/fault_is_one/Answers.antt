use Rattle.pt_gpt.proofs.Faults.{copy_fault_is_one_lem}
use Rattle.pt_gpt.proofs.laws.fault_is_one.Goals as goal

pub returns : goal.returns
returns c = copy_fault_is_one_lem
