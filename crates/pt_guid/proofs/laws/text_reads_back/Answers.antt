use Rattle.pt_guid.proofs.Terms.{text_reads_back}
use Rattle.pt_guid.proofs.laws.text_reads_back.Goals as goal

pub returns : goal.returns
returns c = text_reads_back
