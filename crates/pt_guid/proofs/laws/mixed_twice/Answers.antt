use Rattle.pt_guid.proofs.Terms.{mixed_twice}
use Rattle.pt_guid.proofs.laws.mixed_twice.Goals as goal

pub returns : goal.returns
returns c = mixed_twice
