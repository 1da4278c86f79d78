-- What a walk has read when it ends.
use Rattle.std.proofs.Common.{◌≡◌, ◌<◌, ℕ, List, [], ◌∷◌, ◌++◌, length, refl, sym, ap, ◌∙◌, subst, arith, inl, inr, ⊎_elim}
use Rattle.std.specs.Prelude.{◌⊎◌}
use Rattle.pt_sector.specs.Sectors.{Sectors, Span}
use Rattle.pt_sector.specs.declared.address.Lba.{Lba}
use Rattle.pt_mbr.specs.Chain.{lba, IsInside, ChainFault, ChainReads, IsDevice, StandsAt, ReadsAre}
use Rattle.pt_mbr.specs.Changes.{EndsIn}
use Rattle.pt_mbr.specs.declared.ebr.Ebr.{Ebr}
use Rattle.pt_mbr.specs.declared.chain.ChainError.{ChainError}
use Rattle.pt_mbr.specs.declared.chain.ChainError.TheVariants.{NoSignature, BadRecord, NotUpward, OutsideExtended, TooLong, Device}
use Rattle.pt_mbr.proofs.ReadingLemmas.{of_way, at_is_read, before_is_read}

-- where the sector at fault was read, and is the first of no other
no_record : (Q : Type 0) (d : Sectors) (x : Span) (e : ChainError) (f : ChainFault d x e) (list : List Ebr) (s : ℕ)
    → list ≡ f.before → (s ≡ f.at.0 → length f.before < 128 → Q) → ¬ IsDevice e → ChainReads d x s → StandsAt s list ⊎ Q
no_record Q d x e f list s same here plain reads = told (of_way d x e s f reads) where
  told : StandsAt s f.before ⊎ ((s ≡ f.at.0) × (length f.before < 128)) ⊎ IsDevice e → StandsAt s list ⊎ Q
  told (inl at) = inl (subst (λ (l : List Ebr). StandsAt s l) (sym same) at)
  told (inr (inl at)) = inr (here at.0 at.1)
  told (inr (inr device)) = absurd (plain device)

stands_left : (s : ℕ) (a : List Ebr) (g : Ebr) → StandsAt s a → StandsAt s (a ++ g ∷ [])
stands_left s [] g at = absurd at
stands_left s (e ∷ a) g (inl at) = inl at
stands_left s (e ∷ a) g (inr at) = inr (stands_left s a g at)

stands_last : (s : ℕ) (a : List Ebr) (g : Ebr) → s ≡ g.at.0 → StandsAt s (a ++ g ∷ [])
stands_last s [] g at = inl at
stands_last s (e ∷ a) g at = inr (stands_last s a g at)

stands_one : (s : ℕ) (a : List Ebr) (g : Ebr) → StandsAt s (a ++ g ∷ []) → StandsAt s a ⊎ (s ≡ g.at.0)
stands_one s [] g (inl at) = inr at
stands_one s [] g (inr none) = absurd none
stands_one s (e ∷ a) g (inl at) = inl (inl at)
stands_one s (e ∷ a) g (inr at) = later (stands_one s a g at) where
  later : StandsAt s a ⊎ (s ≡ g.at.0) → StandsAt s (e ∷ a) ⊎ (s ≡ g.at.0)
  later (inl before) = inl (inr before)
  later (inr here) = inr here

pub reads_are : (d : Sectors) (x : Span) (list : List Ebr) (e : ChainError) → EndsIn d x list e → ReadsAre d x list e
reads_are d x list (Device y) ends = tt
reads_are d x list (OutsideExtended y) ends = λ s. (
  (λ reads. no_record ⊥ d x (OutsideExtended y) ends.fault list s ends.decoded
      (λ same few. absurd (ends.fault.here.1 (subst (λ (z : ℕ). IsInside x (length d) (lba z)) same reads.inside))) (λ none. none) reads),
  λ at. ⊎_elim (before_is_read d x (OutsideExtended y) ends.fault list s ends.decoded) (λ none. absurd none) at,
)
reads_are d x list TooLong ends = λ s. (
  (λ reads. no_record ⊥ d x TooLong ends.fault list s ends.decoded (λ same few. absurd (omega (arith, few, ends.fault.here.1)))
      (λ none. none) reads),
  λ at. ⊎_elim (before_is_read d x TooLong ends.fault list s ends.decoded) (λ none. absurd none) at,
)
reads_are d x list (NoSignature y) ends =
    let place : y.0 ≡ ends.fault.at.0 = ap (λ (z : Lba). z.0) ends.fault.here.0 in
    λ s. (
      (λ reads. no_record (s ≡ y.0) d x (NoSignature y) ends.fault list s ends.decoded (λ same few. same ∙ sym place) (λ none. none) reads),
      λ at. ⊎_elim (before_is_read d x (NoSignature y) ends.fault list s ends.decoded)
          (λ here. at_is_read d x (NoSignature y) ends.fault s ends.fault.here.2 ends.fault.here.1 (here ∙ place)) at,
    )
reads_are d x list (BadRecord y) ends =
    let place : y.0 ≡ ends.fault.at.0 = ap (λ (z : Lba). z.0) ends.fault.here.0 in
    λ s. (
      (λ reads. no_record (s ≡ y.0) d x (BadRecord y) ends.fault list s ends.decoded (λ same few. same ∙ sym place) (λ none. none) reads),
      λ at. ⊎_elim (before_is_read d x (BadRecord y) ends.fault list s ends.decoded)
          (λ here. at_is_read d x (BadRecord y) ends.fault s ends.fault.here.2 ends.fault.here.1 (here ∙ place)) at,
    )
reads_are d x list (NotUpward y) ends =
    let f = ends.fault in
    let g = ends.decoded.0 in
    let same : list ≡ f.before ++ g ∷ [] = ends.decoded.2 in
    let place : g.at.0 ≡ f.at.0 = ap (λ (z : Lba). z.0) (ends.decoded.1 ∙ f.here.0) in
    λ s. (
      (λ reads. ⊎_elim
          (λ at. inl (subst (λ (l : List Ebr). StandsAt s l) (sym same) (stands_left s f.before g at)))
          (λ here. inl (subst (λ (l : List Ebr). StandsAt s l) (sym same) (stands_last s f.before g (here ∙ sym place))))
          (no_record (s ≡ f.at.0) d x (NotUpward y) f f.before s refl (λ at few. at) (λ none. none) reads)),
      λ at. ⊎_elim
          (λ stands. ⊎_elim
          (before_is_read d x (NotUpward y) f f.before s refl)
          (λ here. at_is_read d x (NotUpward y) f s f.here.1 f.here.3.inside (here ∙ place))
          (stands_one s f.before g (subst (λ (l : List Ebr). StandsAt s l) same stands)))
          (λ none. absurd none) at,
    )
