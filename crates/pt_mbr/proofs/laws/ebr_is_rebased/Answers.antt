use Rattle.pt_mbr.proofs.Terms.{ebr_rebased_lem}
use Rattle.pt_mbr.proofs.laws.ebr_is_rebased.Goals as goal

pub returns : goal.returns
returns c = ebr_rebased_lem
