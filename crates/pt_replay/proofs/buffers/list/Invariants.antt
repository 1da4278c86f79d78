use Rattle.std.proofs.Common.{take}
use Rattle.pt_apply.specs.inner.Plans.{phases_in}
use Rattle.pt_replay.specs.inner.Given.{AreRows}
use Rattle.pt_replay.proofs.buffers.list.Given as goal

abbrev pub invariant-loop-k : goal.invariant-loop-k
invariant-loop-k g l = AreRows (phases_in (take l.k l.plan.phases.items)) l.listed.rows.items l.listed.bytes.items
