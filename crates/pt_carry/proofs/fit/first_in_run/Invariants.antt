use Rattle.std.proofs.Common.{◌≡◌, ◌≤◌, ◌<◌, ◌+◌, ℕ}
use Rattle.pt_carry.specs.inner.Copying.{MayBe}
use Rattle.pt_carry.proofs.fit.first_in_run.Given as goal

abbrev pub invariant-loop-at : goal.invariant-loop-at
invariant-loop-at g l = record {
  from : l.run.first ≤ l.at;
  end : l.at-end ≡ l.run.last + 1;
  fit : (t : ℕ) → l.run.first ≤ t → t < l.at → MayBe g.row.B l.sectors l.known t;
}
