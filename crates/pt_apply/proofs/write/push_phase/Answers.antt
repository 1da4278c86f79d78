use Rattle.std.specs.Prelude.{All}
use Rattle.std.specs.String.{string_bytes}
use Rattle.pt_apply.specs.declared.plan.Write.{Write}
use Rattle.pt_apply.specs.Plans.{writes_of}
use Rattle.pt_apply.specs.PlanTexts.{write_text}
use Rattle.pt_apply.specs.inner.PlanTexts.{HasLine}
use Rattle.pt_apply.proofs.Texts.{text_more, held_more, all_taken, on_ok}
use Rattle.pt_apply.proofs.write.push_phase.Goals as goal

pub loop-write-preserved : goal.loop-write-preserved
loop-write-preserved g c = record {
  text = text_more write_text (λ (w : Write g.row.B). (w.lba.0, w.bytes)) c.args.phase.now c.loop-write.write-index c.write-item.result
      (string_bytes c.args.text.now) (string_bytes c.loop-write.text) (string_bytes c.push_write.new.text)
      c.loop-write-test.true c.write-item.is c.loop-write.invariant.text c.in_ok-push_write.ensures.text;
  held = held_more (HasLine g.row.B) (λ (w : Write g.row.B). (
    w.lba.0,
    w.bytes,
  )) c.args.phase.now c.loop-write.write-index c.write-item.result
      c.loop-write-test.true c.write-item.is c.loop-write.invariant.held c.push_write.ensures.held;
}

pub returns-clause-held : goal.returns-clause-held
returns-clause-held g c =
    on_ok c.push_str.result (All (HasLine g.row.B) (writes_of c.args.phase.now))
    (all_taken (HasLine g.row.B) (λ (w : Write g.row.B). (
      w.lba.0,
      w.bytes,
    )) c.args.phase.now c.loop-write.write-index c.loop-write-test.false c.loop-write.invariant.held)
