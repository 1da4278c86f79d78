use Rattle.std.proofs.Common.{arith}
use Rattle.pt_replay.proofs.PlanRows.{none_listed, one_listed}
use Rattle.pt_replay.proofs.buffers.list.Goals as goal

pub loop-k-init : goal.loop-k-init
loop-k-init g c = none_listed c.new.result.items c.new-2.result.items c.new.ensures.items c.new-2.ensures.items

pub loop-k-preserved : goal.loop-k-preserved
loop-k-preserved g c =
    one_listed c.args.plan.now.phases.items c.loop-k.k c.index.result.now _ _ c.add_phase.new.listed.rows.items
    c.add_phase.new.listed.bytes.items (let test = c.loop-k-test.true in let len = c.len-k-end.ensures in let ok =
    c.args.plan.now.phases.ok.0 in omega (arith, test, len, ok)) c.index.ensures
    c.loop-k.invariant (rw c.as_slice.ensures.value at c.in_ok-add_phase.ensures.rows)
    (rw c.as_slice.ensures.value at c.in_ok-add_phase.ensures.bytes)
