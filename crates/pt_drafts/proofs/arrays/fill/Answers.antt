use Rattle.std.proofs.Common.{◌≤◌, ◌<◌, ◌∙◌, ◌+◌, ap, sym, map, take, length, Some, arith}
use Rattle.std.proofs.lemmas.Grind.{drop_more_same}
use Rattle.std.proofs.lemmas.List.{length-set, drop-set-lt, take_more_set}
use Rattle.serde_json.specs.View.{view}
use Rattle.pt_drafts.specs.Values.{all_of}
use Rattle.pt_drafts.specs.inner.Arrays.{filled}
use Rattle.pt_drafts.proofs.Filling.{one_more, stopped, finished, written}
use Rattle.pt_drafts.proofs.arrays.fill.Goals as goal

pub returns-in-None : goal.returns-in-None
returns-in-None g c =
    let xs = c.args.values.now in
    let f = g.T.Stands.stands_for in
    sym (ap (filled c.args.all.now) (stopped f view xs c.loop-k.k (take c.loop-k.k c.loop-k.all) (all_of f (map view xs))
    c.index-values-k.result c.loop-k-test.true c.index-values-k.is c.loop-k.invariant.rest (sym c.in-None.ensures)))

pub loop-k-preserved : goal.loop-k-preserved
loop-k-preserved g c =
    let xs = c.args.values.now in
    let f = g.T.Stands.stands_for in
    let all = c.loop-k.all in
    let k = c.loop-k.k in
    let y = c.in-Some.found in
    let room = c.loop-k.invariant.room in
    let within : k < length all = omega (arith, room, c.requires, c.loop-k-test.true) in
    record {
      room = length-set all k y ∙ room;
      kept = drop-set-lt (k + 1) all k y (omega arith) ∙ drop_more_same all c.args.all.now k c.loop-k.invariant.kept;
      rest = one_more f view xs k (take k all) (all_of f (map view xs)) c.index-values-k.result y _ c.loop-k-test.true
          c.index-values-k.is c.loop-k.invariant.rest (sym c.in-Some.ensures) (take_more_set all k y within);
    }

pub returns : goal.returns
returns g c =
    let xs = c.args.values.now in
    let f = g.T.Stands.stands_for in
    let all = c.loop-k.all in
    let k = c.loop-k.k in
    let room = c.loop-k.invariant.room in
    let within : k ≤ length all = omega (arith, room, c.requires, c.loop-k.auto.k-end) in
    sym (ap (filled c.args.all.now) (finished f view xs k (take k all) (all_of f (map view xs)) (omega (arith, c.loop-k-test.false))
    c.loop-k.invariant.rest)
    ∙ ap Some (written all c.args.all.now k within c.loop-k.invariant.kept))
