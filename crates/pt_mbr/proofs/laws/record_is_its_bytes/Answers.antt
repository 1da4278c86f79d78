use Rattle.pt_mbr.proofs.Terms.{record_is_its_bytes}
use Rattle.pt_mbr.proofs.laws.record_is_its_bytes.Goals as goal

pub returns : goal.returns
returns c = record_is_its_bytes
