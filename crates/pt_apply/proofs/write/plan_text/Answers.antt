use Rattle.std.proofs.Common.{◌≡◌, ◌<◌, ◌≤◌, ◌++◌, List, [], length, get_or, ap, ◌∙◌, subst}
use Rattle.std.specs.Prelude.{All, Vec}
use Rattle.std.specs.declared.alloc.Global.{Global}
use Rattle.std.specs.String.{string_bytes}
use Rattle.std.proofs.lemmas.List.{take_all}
use Rattle.std.proofs.lemmas.Result.{err_from_is_err_and}
use Rattle.pt_sector.specs.Sectors.{Writes}
use Rattle.pt_apply.specs.declared.plan.Write.{Write}
use Rattle.pt_apply.specs.Plans.{writes_of, phases_of}
use Rattle.pt_apply.specs.inner.Plans.{phases_in}
use Rattle.pt_apply.specs.PlanTexts.{phase_text, text_of}
use Rattle.pt_apply.specs.inner.PlanTexts.{HasLine}
use Rattle.pt_apply.proofs.Texts.{text_more, held_more, all_taken, canonical, none_empty}
use Rattle.pt_apply.proofs.write.plan_text.Goals as goal

pub loop-phase-preserved : goal.loop-phase-preserved
loop-phase-preserved g c =
    let items = c.args.plan.now.phases.items in
    let index = c.loop-phase.phase-index in
    let item = c.phase-item.result in
    let same = c.deref-phase-items.ensures.value in
    let is = subst (λ (t : List (Vec (Write g.row.B) Global)). item ≡ get_or t index item) same c.phase-item.is in
    let within = subst (λ (t : List (Vec (Write g.row.B) Global)). index < length t) same c.loop-phase-test.true in
    let writes = c.deref.ensures.value in
    let more =
    subst (λ (t : List (Write g.row.B)). string_bytes c.push_phase.new.text ≡ string_bytes c.loop-phase.text ++ phase_text
    (writes_of t)) writes c.in_ok-push_phase.ensures.text in
    let held = subst (λ (t : List (Write g.row.B)). All (HasLine g.row.B) (writes_of t)) writes c.in_ok-push_phase.ensures.held in
    record {
      text = text_more phase_text (λ (p : Vec (Write g.row.B) Global). writes_of p.items) items index item []
          (string_bytes c.loop-phase.text)
          (string_bytes c.push_phase.new.text) within is c.loop-phase.invariant.text more;
      held = held_more (λ (p : Writes). All (HasLine g.row.B) p)
          (λ (p : Vec (Write g.row.B) Global). writes_of p.items) items index item within is
          c.loop-phase.invariant.held held;
    }

pub returns-in_err-push_phase : goal.returns-in_err-push_phase
returns-in_err-push_phase g c =
    let p = err_from_is_err_and c.from_residual.result c.from_residual.ensures.1 in record { ok = rw p.1 tt; lower = rw p.1 tt }

pub returns : goal.returns
returns g c =
    let items = c.args.plan.now.phases.items in
    let index = c.loop-phase.phase-index in
    let past =
    subst (λ (t : List (Vec (Write g.row.B) Global)). length t ≤ index) c.deref-phase-items.ensures.value c.loop-phase-test.false in
    let text =
    c.loop-phase.invariant.text ∙ ap (λ (t : List (Vec (Write g.row.B) Global)). text_of (phases_in t)) (take_all index items past) in
    record {
      ok = canonical g.row.B (phases_of c.args.plan.now) (string_bytes c.loop-phase.text) text (none_empty items c.requires.phases)
          (all_taken (λ (p : Writes). All (HasLine g.row.B) p)
          (λ (p : Vec (Write g.row.B) Global). writes_of p.items) items index past c.loop-phase.invariant.held);
      lower = text;
    }
