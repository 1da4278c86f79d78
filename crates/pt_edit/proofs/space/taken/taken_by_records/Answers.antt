use Rattle.std.proofs.Common.{arith}
use Rattle.pt_edit.proofs.Pushed.{one_record, all_records}
use Rattle.pt_edit.proofs.space.taken.taken_by_records.Goals as goal

pub returns : goal.returns
returns c =
    all_records c.args.records.now c.loop-k.k c.loop-k.taken.items c.told-records
    (omega (arith, c.loop-k-test.false)) c.loop-k.invariant

pub loop-k-preserved : goal.loop-k-preserved
loop-k-preserved c =
    one_record c.args.records.now c.loop-k.k c.record_slot.result c.loop-k.taken.items c.push_span.new.taken.items
    (omega (arith, c.told-records, c.loop-k-test.true)) c.record_slot.ensures.value c.loop-k.invariant c.in_ok-push_span.ensures
