use Rattle.std.proofs.Common.{◌≡◌, take}
use Rattle.std.specs.String.{string_bytes}
use Rattle.pt_apply.specs.inner.Plans.{phases_in}
use Rattle.pt_apply.specs.PlanTexts.{text_of}
use Rattle.pt_apply.proofs.CanonicalLemmas.{HaveLines}
use Rattle.pt_apply.proofs.write.plan_text.Given as goal

abbrev pub invariant-loop-phase : goal.invariant-loop-phase
invariant-loop-phase g l = record {
  text : string_bytes l.text ≡ text_of (phases_in (take l.phase-index l.plan.phases.items));
  held : HaveLines g.row.B (phases_in (take l.phase-index l.plan.phases.items));
}
