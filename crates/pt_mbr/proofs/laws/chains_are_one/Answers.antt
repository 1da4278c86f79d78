use Rattle.pt_mbr.proofs.Terms.{chain_is_one, fault_has_no_chain}
use Rattle.pt_mbr.proofs.laws.chains_are_one.Goals as goal

pub returns : goal.returns
returns c = record { one = chain_is_one; none = fault_has_no_chain }
