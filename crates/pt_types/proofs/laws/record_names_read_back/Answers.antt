use Rattle.pt_types.proofs.Terms.{record_reads_back}
use Rattle.pt_types.proofs.laws.record_names_read_back.Goals as goal

pub returns : goal.returns
returns c = record_reads_back
