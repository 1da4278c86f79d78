use Rattle.pt_mbr.proofs.Terms.{ebr_is_one, fault_has_no_ebr}
use Rattle.pt_mbr.proofs.laws.ebr_is_one.Goals as goal

pub returns : goal.returns
returns c = record { one = ebr_is_one; none = fault_has_no_ebr }
