use Rattle.pt_mbr.proofs.Terms.{protective_is_borne}
use Rattle.pt_mbr.proofs.laws.protective_is_borne.Goals as goal

pub returns : goal.returns
returns c = protective_is_borne
