use Rattle.pt_types.proofs.Terms.{never_unused, never_protective}
use Rattle.pt_types.proofs.laws.record_types_are_used.Goals as goal

pub returns-clause-unused : goal.returns-clause-unused
returns-clause-unused c = never_unused

pub returns-clause-protective : goal.returns-clause-protective
returns-clause-protective c = never_protective
