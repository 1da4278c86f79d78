use Rattle.std.proofs.Common.{◌∙◌, arith, ap, List}
use Rattle.serde_json.specs.View.{items_of}
use Rattle.serde_json.specs.Data.{Data, array}
use Rattle.pt_tables.specs.Entries.{entry_data}
use Rattle.pt_tables.proofs.Listed.{no_more, one_more}
use Rattle.pt_tables.proofs.entries.entries_value.Goals as goal

pub loop-k-preserved : goal.loop-k-preserved
loop-k-preserved c =
    one_more (entry_data c.args.device.now c.args.labels.now) _ _ c.loop-k.k c.args.entries.now _ _ (omega (arith, c.loop-k-test.true))
    c.loop-k.invariant c.in_ok-push_entry.ensures

pub returns : goal.returns
returns c =
    c.into_value.ensures
    ∙ ap (λ (ds : List Data). array (items_of ds)) (no_more (entry_data c.args.device.now c.args.labels.now) _ _ _ _
    (omega (arith, c.loop-k-test.false)) c.loop-k.invariant)
