use Rattle.std.proofs.Common.{refl, arith}
use Rattle.pt_cases.proofs.Sorting.{twins_at, apart_more}
use Rattle.pt_cases.proofs.targets.target.has_twins.Goals as goal

pub returns-then-targets-k : goal.returns-then-targets-k
returns-then-targets-k g c = (
  λ _. twins_at c.args.targets.now c.loop-k.k c.index-targets-k.result c.index-targets-k-in-loop-k.result (omega arith)
      (omega arith) c.if-targets-k.true,
  λ _. refl,
)

pub loop-k-preserved : goal.loop-k-preserved
loop-k-preserved g c =
    apart_more c.args.targets.now c.loop-k.k c.index-targets-k.result c.index-targets-k-in-loop-k.result (omega arith)
    (omega arith) c.if-targets-k.false c.loop-k.invariant
