use Rattle.pt_mbr.proofs.Terms.{mbr_is_one}
use Rattle.pt_mbr.proofs.laws.mbr_is_one.Goals as goal

pub returns : goal.returns
returns c = mbr_is_one
