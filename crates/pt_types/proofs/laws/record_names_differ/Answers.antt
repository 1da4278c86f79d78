use Rattle.pt_types.proofs.TableFacts.{record_distinct}
use Rattle.pt_types.proofs.laws.record_names_differ.Goals as goal

pub returns : goal.returns
returns c = record_distinct
