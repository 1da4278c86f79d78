use Rattle.std.proofs.Common.{◌≤◌, ◌-◌, length}
use Rattle.pt_recover.specs.inner.Spans.{joined, StandsBefore}
use Rattle.pt_recover.proofs.trace.join.Given as goal

abbrev pub invariant-loop-at : goal.invariant-loop-at
invariant-loop-at l = record {
  inside : l.at ≤ length l.runs.items;
  some : l.run.first ≤ l.run.last;
  stands : StandsBefore (joined l.fn.new l.fn.runs.items) l.runs.items l.at l.run;
}

abbrev pub decreases-loop-at : goal.decreases-loop-at
decreases-loop-at l = length l.runs.items - l.at
