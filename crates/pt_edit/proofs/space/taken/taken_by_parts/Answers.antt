use Rattle.std.proofs.Common.{arith}
use Rattle.pt_edit.proofs.Pushed.{one_part, all_parts}
use Rattle.pt_edit.proofs.space.taken.taken_by_parts.Goals as goal

pub returns : goal.returns
returns c =
    all_parts c.args.label.now c.args.slice.now c.loop-k.k c.loop-k.taken.items c.requires.counted
    (omega (arith, c.loop-k-test.false)) c.loop-k.invariant

pub loop-k-preserved : goal.loop-k-preserved
loop-k-preserved c =
    one_part c.args.label.now c.args.slice.now c.loop-k.k c.part_slot.result c.loop-k.taken.items c.push_run.new.taken.items
    (omega (arith, c.requires.counted, c.loop-k-test.true)) c.part_slot.ensures c.loop-k.invariant c.in_ok-push_run.ensures
