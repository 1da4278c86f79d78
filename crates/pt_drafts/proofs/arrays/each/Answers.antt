use Rattle.std.proofs.Common.{◌∙◌, ap, sym, map, Some, arith}
use Rattle.serde_json.specs.View.{view}
use Rattle.pt_drafts.specs.Values.{all_of, whole}
use Rattle.pt_drafts.proofs.Filling.{one_more, stopped, finished}
use Rattle.pt_drafts.proofs.arrays.each.Goals as goal

pub returns-in-None : goal.returns-in-None
returns-in-None c =
    let xs = c.args.values.now in
    sym (stopped whole view xs c.loop-k.k c.loop-k.all.items (all_of whole (map view xs)) c.index-values-k.result
    c.loop-k-test.true c.index-values-k.is c.loop-k.invariant (sym c.in-None.ensures))

pub loop-k-preserved : goal.loop-k-preserved
loop-k-preserved c =
    let xs = c.args.values.now in
    one_more whole view xs c.loop-k.k c.loop-k.all.items (all_of whole (map view xs)) c.index-values-k.result c.in-Some.number
    c.push.new.self.items c.loop-k-test.true c.index-values-k.is c.loop-k.invariant (sym c.in-Some.ensures)
    c.in_ok-push-in-Some.ensures.items

pub returns : goal.returns
returns c =
    let xs = c.args.values.now in
    ap Some c.new.ensures
    ∙ sym (finished whole view xs c.loop-k.k c.loop-k.all.items (all_of whole (map view xs)) (omega (arith, c.loop-k-test.false))
    c.loop-k.invariant)
