use Rattle.pt_guid.proofs.Terms.{types_are_used}
use Rattle.pt_guid.proofs.laws.types_are_used.Goals as goal

pub returns : goal.returns
returns c = types_are_used
