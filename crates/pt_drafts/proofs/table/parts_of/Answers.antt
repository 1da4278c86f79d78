use Rattle.std.proofs.Common.{◌∙◌, ◌+◌, ap, sym, map, Some, Ok, arith}
use Rattle.serde_json.specs.View.{view}
use Rattle.pt_drafts.specs.Tables.{parts_from, told}
use Rattle.pt_drafts.proofs.PartLists.{part_more, part_faulty, no_more_parts}
use Rattle.pt_drafts.proofs.table.parts_of.Goals as goal

pub returns-in-Err-clause-err : goal.returns-in-Err-clause-err
returns-in-Err-clause-err c =
    let xs = c.args.objects.now in
    part_faulty view xs c.loop-k.k c.loop-k.parts.items (parts_from 1 (map view xs)) c.index-objects-k.result c.in-Err.fault
    c.loop-k-test.true c.index-objects-k.is c.loop-k.invariant
    (sym (c.in-Err.ensures ∙ ap (told (Some (c.loop-k.k + 1))) c.part.ensures))

pub loop-k-preserved : goal.loop-k-preserved
loop-k-preserved c =
    let xs = c.args.objects.now in
    part_more view xs c.loop-k.k c.loop-k.parts.items (parts_from 1 (map view xs)) c.index-objects-k.result c.in-Ok.found
    c.push.new.self.items c.loop-k-test.true c.index-objects-k.is c.loop-k.invariant
    (sym (c.in-Ok.ensures ∙ ap (told (Some (c.loop-k.k + 1))) c.part.ensures)) c.in_ok-push-in-Ok.ensures.items

pub returns-clause-ok : goal.returns-clause-ok
returns-clause-ok c =
    let xs = c.args.objects.now in
    no_more_parts view xs c.loop-k.k c.loop-k.parts.items (parts_from 1 (map view xs)) (omega (arith, c.loop-k-test.false))
    c.loop-k.invariant ∙ ap Ok (sym c.new.ensures)
