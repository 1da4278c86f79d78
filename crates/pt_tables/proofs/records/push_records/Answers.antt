use Rattle.std.proofs.Common.{arith}
use Rattle.pt_tables.specs.Records.{record_data}
use Rattle.pt_tables.proofs.Listed.{no_more, one_more}
use Rattle.pt_tables.proofs.records.push_records.Goals as goal

pub loop-k-preserved : goal.loop-k-preserved
loop-k-preserved c =
    one_more (record_data c.args.device.now c.args.labels.now) _ _ c.loop-k.k c.args.records.now _ _ (omega (arith, c.loop-k-test.true))
    c.loop-k.invariant c.in_ok-push_record.ensures

pub returns : goal.returns
returns c = no_more (record_data c.args.device.now c.args.labels.now) _ _ _ _ (omega (arith, c.loop-k-test.false)) c.loop-k.invariant
