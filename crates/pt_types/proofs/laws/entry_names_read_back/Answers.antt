use Rattle.pt_types.proofs.Terms.{entry_reads_back}
use Rattle.pt_types.proofs.laws.entry_names_read_back.Goals as goal

pub returns : goal.returns
returns c = entry_reads_back
