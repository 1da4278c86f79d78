use Rattle.std.proofs.lemmas.List.FromFn.{length-map-range_with_len}
use Rattle.std.proofs.lemmas.Result.{IfOk-weaker}
use Rattle.pt_replay.proofs.Unknown.{if_told, lists_after, lists_alone}
use Rattle.pt_replay.proofs.Walk.{asked_new}
use Rattle.pt_replay.proofs.wanting.wanted_of.Goals as goal

pub returns-in-Ok-clause-ok : goal.returns-in-Ok-clause-ok
returns-in-Ok-clause-ok g c =
    let through = c.body_of.ensures.same.through in
    IfOk-weaker c.told.result _ _
    (λ list are. lists_after g.row.B c.args.disk.now.sectors c.args.disk.now.numbers.now c.args.disk.now.known.now _ _ _ _
    c.in-Ok.body list.items through.0 through.1.numbers through.1.sectors (length-map-range_with_len _ 0 c.args.disk.now.sectors)
    (c.in-Ok.ensures.ok tt) are)
    (if_told _ _ c.wanted_places.result c.told.result c.told.ensures c.wanted_places.ensures)

pub returns-clause-ok : goal.returns-clause-ok
returns-clause-ok g c =
    IfOk-weaker c.wanted_by.result _ _
    (λ list is. lists_alone g.row.B c.args.disk.now.sectors c.args.disk.now.numbers.now c.args.disk.now.known.now _ c.in-Err.why
    list.items is
    (c.in-Err.ensures.err tt) (asked_new _ _ _ _ _ _ _ _ c.body_of.ensures.same.through.1 c.in-Err.ensures.blames)
    (c.in-Err.ensures.place tt))
    c.wanted_by.ensures.ok
