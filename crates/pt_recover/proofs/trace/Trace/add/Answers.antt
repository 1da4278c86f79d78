use Rattle.std.proofs.Common.{subst, sym, List, ap, ◌∙◌, inl, inr}
use Rattle.std.specs.Prelude.{◌⊎◌, ◌↔◌}
use Rattle.pt_recover.specs.Spans.{InRun, IsIn}
use Rattle.pt_recover.specs.inner.Spans.{joined}
use Rattle.pt_recover.specs.declared.trace.TracedRun.{TracedRun}
use Rattle.pt_recover.proofs.Joined.{in_joined}
use Rattle.pt_recover.proofs.trace.Trace.add.Goals as goal

either : {P Q R : Type 0} → P ↔ (Q ⊎ R) → P ↔ (R ⊎ Q)
either h = (λ p. elim (h.0 p) [ inl q ↦ inr q | inr r ↦ inl r ], λ x. elim x [ inl r ↦ h.1 (inr r) | inr q ↦ h.1 (inl q) ])

pub returns : goal.returns
returns c =
    let one : TracedRun = record { first = c.args.first; last = c.args.last } in
    let same = c.in_ok-join.ensures.ok ∙ ap (joined one) c.self.view_is in
    λ s. subst (λ (l : List TracedRun). IsIn l s ↔ (IsIn c.args.self.now s ⊎ InRun one s)) (sym same)
    (either (in_joined one c.args.self.now s))
