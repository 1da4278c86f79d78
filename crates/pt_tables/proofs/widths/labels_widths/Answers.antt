use Rattle.std.proofs.Common.{◌≡◌, ◌∙◌, ◌<◌, ◌+◌, ℕ, List, arith, ap, get_or, length, inl, inr, subst}
use Rattle.std.proofs.lemmas.Bool.{cases_lt}
use Rattle.std.proofs.lemmas.List.{get_or_default}
use Rattle.pt_members.specs.declared.layout.Labelled.{Labelled}
use Rattle.pt_tables.specs.Shown.{LabelWidths}
use Rattle.pt_tables.proofs.widths.labels_widths.Goals as goal

one_more : (labels : List Labelled) (k j : ℕ) (d z : Labelled) → ((i : ℕ) (y : Labelled) → i < k → i < length labels
    → LabelWidths (get_or labels i y).label) → LabelWidths (get_or labels k d).label → j < k + 1 → j < length labels
    → LabelWidths (get_or labels j z).label
one_more labels k j d z before here below within =
    elim (cases_lt j k) [
      | inl less ↦ before j z less within
      | inr last ↦
          let same : k ≡ j = omega (arith, below, last) in
          subst (λ (x : Labelled). LabelWidths x.label) (ap (λ (i : ℕ). get_or labels i d) same ∙ get_or_default labels j d z within) here
    ]

pub loop-k-preserved : goal.loop-k-preserved
loop-k-preserved c = λ j z below within.
    one_more c.args.labels.now c.loop-k.k j _ z c.loop-k.invariant c.label_widths.ensures below within

pub returns : goal.returns
returns c = λ k d within. c.loop-k.invariant k d (omega (arith, within, c.loop-k-test.false)) within
