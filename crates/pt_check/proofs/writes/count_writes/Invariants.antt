use Rattle.std.proofs.Common.{◌≡◌, ◌≤◌, length, take}
use Rattle.pt_apply.specs.Plans.{writes_in}
use Rattle.pt_apply.specs.inner.Plans.{phases_in}
use Rattle.pt_check.proofs.writes.count_writes.Given as goal

abbrev pub invariant-loop-phase : goal.invariant-loop-phase
invariant-loop-phase g l = record {
  count : l.count ≡ length (writes_in (take l.phase-index (phases_in l.phase-items)));
  few : l.count ≤ 4096;
}
