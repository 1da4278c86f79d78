use Rattle.pt_types.proofs.TableFacts.{entry_distinct}
use Rattle.pt_types.proofs.laws.entry_names_differ.Goals as goal

pub returns : goal.returns
returns c = entry_distinct
