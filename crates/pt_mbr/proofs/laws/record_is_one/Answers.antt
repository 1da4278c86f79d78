use Rattle.pt_mbr.proofs.Terms.{record_is_one}
use Rattle.pt_mbr.proofs.laws.record_is_one.Goals as goal

pub returns : goal.returns
returns c = record_is_one
