use Rattle.std.proofs.Common.{sym, subst, refl, List}
use Rattle.pt_words.specs.declared.word.Edit.{Edit}
use Rattle.pt_guid.specs.declared.guid.Guid.{Guid}
use Rattle.pt_replay.specs.Wanted.{disk_of}
use Rattle.pt_replay.specs.Given.{AreEdits, AreDrawn}
use Rattle.pt_replay.proofs.Saying.{no_guids, no_edits, asked_for}
use Rattle.pt_replay.proofs.planning.planned.Goals as goal

pub returns-in-Err : goal.returns-in-Err
returns-in-Err g c = record {
  says = no_guids g.row.B c.args.view.now (disk_of g.row.B c.args.view.now c.args.elsewhere.items) c.args.words.now c.args.drawn.now _ _ _ _
      refl c.in-Err.ensures.err;
}

pub returns-in-Err-edits_of : goal.returns-in-Err-edits_of
returns-in-Err-edits_of g c = record {
  says = no_edits g.row.B c.args.view.now (disk_of g.row.B c.args.view.now c.args.elsewhere.items) c.args.words.now c.args.drawn.now _ _
      c.in-Ok.guids.items _ _ c.in-Ok.ensures.ok refl c.in-Err-edits_of.ensures.err;
}

pub returns : goal.returns
returns g c = record {
  says = asked_for g.row.B c.args.view.now (disk_of g.row.B c.args.view.now c.args.elsewhere.items) c.args.words.now c.args.drawn.now _ _
      c.as_slice.result.now c.as_slice-2.result.now c.plan_given.result.status c.plan_given.result.reply
      (subst (λ (es : List Edit). AreEdits c.args.words.now es) (sym c.as_slice.ensures.value) c.in-Ok-edits_of.ensures.ok)
      (subst (λ (gs : List Guid). AreDrawn c.args.drawn.now gs) (sym c.as_slice-2.ensures.value) c.in-Ok.ensures.ok)
      c.plan_given.ensures.says;
}
