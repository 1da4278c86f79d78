use Rattle.pt_guid.proofs.Terms.{codes_differ}
use Rattle.pt_guid.proofs.laws.codes_differ.Goals as goal

pub returns : goal.returns
returns c = codes_differ
