use Rattle.std.proofs.Common.{◌≡◌, ℕ, List, refl, sym, subst}
use Rattle.pt_guid.specs.declared.guid.Guid.{Guid}
use Rattle.pt_replay.specs.Given.{AreDrawn, buffers}
use Rattle.pt_replay.specs.Tables.{Set}
use Rattle.pt_replay.specs.Wanted.{disk_of, OfView}
use Rattle.pt_replay.proofs.SayingSet.{no_fresh, not_utf8, set_for}
use Rattle.pt_replay.proofs.set.set_planned.Goals as goal

pub returns-in-Err : goal.returns-in-Err
returns-in-Err g c = record {
  says = no_fresh g.row.B c.args.view.now (disk_of g.row.B c.args.view.now c.args.elsewhere.items) c.args.text.now c.args.drawn.now _ _ _ _
      refl c.in-Err.ensures.err;
}

pub returns-in-Err-from_utf8 : goal.returns-in-Err-from_utf8
returns-in-Err-from_utf8 g c = record {
  says = not_utf8 g.row.B c.args.view.now (disk_of g.row.B c.args.view.now c.args.elsewhere.items) c.args.text.now c.args.drawn.now _ _
      c.in-Ok.fresh.items c.bad_argument.result c.in-Ok.ensures.ok c.in-Err-from_utf8.ensures.cases.0 refl c.bad_argument.ensures.told;
}

pub returns : goal.returns
returns g c = record {
  says =
      let v = c.args.view.now in
      let d = disk_of g.row.B v c.args.elsewhere.items in
      let old = buffers c.args.writes.now c.args.bytes.now in
      let new = buffers c.text_given.new.writes c.text_given.new.bytes in
      set_for g.row.B v d c.args.text.now c.args.drawn.now old new c.as_slice.result.now c.text_given.result.status
      c.text_given.result.reply c.in-Ok-from_utf8.ensures.cases.1
      (subst (λ (gs : List Guid). AreDrawn c.args.drawn.now gs) (sym c.as_slice.ensures.value) c.in-Ok.ensures.ok)
      (subst (λ (t : List ℕ). OfView g.row.B v (new ≡ old) (Set g.row.B v d c.as_slice.result.now t old new)
      c.text_given.result.status c.text_given.result.reply) c.in-Ok-from_utf8.ensures.cases.0 c.text_given.ensures.says);
}
