use Rattle.pt_recover.proofs.SameReads.{alike_meaning}
use Rattle.pt_recover.proofs.alike.alike_decides.Goals as goal

pub returns : goal.returns
returns c = alike_meaning
