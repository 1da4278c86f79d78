use Rattle.std.proofs.Common.{◌≡◌, ◌∙◌, ◌<◌, ℕ, subst, arith, inl, inr}
use Rattle.std.proofs.lemmas.Bool.{cases_lt}
use Rattle.std.proofs.lemmas.List.{length-set}
use Rattle.pt_layout.specs.inner.Sound.{SameAt}
use Rattle.pt_layout.proofs.Marks.{met_more}
use Rattle.pt_layout.proofs.sound.soundness.first_twins.Goals as goal

pub loop-k-preserved : goal.loop-k-preserved
loop-k-preserved c =
    let es = c.args.entries.now in
    let none : (i : ℕ) → i < c.loop-k.k → ¬ SameAt es i c.loop-k.k = c.in_default.ensures in
    record {
      apart = λ i j lt most. elim (cases_lt j c.loop-k.k) as (λ _. ¬ SameAt es i j) [
        | inl less ↦ c.loop-k.invariant.apart i j lt less
        | inr last ↦ (let same : c.loop-k.k ≡ j = omega (arith, most, last) in
            subst (λ (n : ℕ). ¬ SameAt es i n) same (none i (omega (arith, lt, same))))
      ];
      met = met_more es c.loop-k.met c.loop-k.k c.mark_of-mark.result c.loop-k.invariant.met c.mark_of-mark.ensures.value
          (omega (arith, c.mark_of-mark.ensures.small, c.loop-k.invariant.long));
      long = length-set _ _ _ ∙ c.loop-k.invariant.long;
    }
