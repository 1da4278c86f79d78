use Rattle.std.proofs.Common.{take, ℕ}
use Rattle.pt_carry.specs.Data.{IsIn}
use Rattle.pt_carry.specs.inner.Copying.{MayBe}
use Rattle.pt_carry.proofs.fit.first_unfit.Given as goal

abbrev pub invariant-loop-run : goal.invariant-loop-run
invariant-loop-run g l = record {
  fit : (t : ℕ) → IsIn (take l.run-index l.runs) t → MayBe g.row.B l.sectors l.known t;
}
