use Rattle.pt_gpt.proofs.Written.{written_is_copy_lem}
use Rattle.pt_gpt.proofs.laws.written_is_copy.Goals as goal

pub returns : goal.returns
returns c = written_is_copy_lem
