use Rattle.pt_gpt.proofs.Written.{entries_back_lem}
use Rattle.pt_gpt.proofs.laws.entries_read_back.Goals as goal

pub returns : goal.returns
returns c = entries_back_lem
