use Rattle.std.proofs.Common.{arith}
use Rattle.pt_members.proofs.Ascending.{ascending}
use Rattle.pt_members.proofs.layout.numbers_ascend.Goals as goal

pub returns : goal.returns
returns c = λ yes. ascending c.args.labels.now c.loop-k.k (omega arith) c.loop-k.invariant
