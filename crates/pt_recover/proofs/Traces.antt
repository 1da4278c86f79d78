-- Traces that grow.
use Rattle.std.proofs.Common.{◌≡◌, ◌<◌, ◌≤◌, ◌+◌, ℕ, zero, suc, List, [], ◌∷◌, ◌++◌, length, get_or, drop, sym, ap, ◌∙◌, subst, arith}
use Rattle.std.proofs.Common.{inl, inr}
use Rattle.std.specs.Prelude.{◌⊎◌, ◌↔◌}
use Rattle.std.proofs.lemmas.List.{drop_all, drop_more}
use Rattle.pt_mbr.specs.Chain.{StandsAt}
use Rattle.pt_mbr.specs.declared.ebr.Ebr.{Ebr}
use Rattle.pt_recover.specs.Spans.{InRun, IsIn, Adds}
use Rattle.pt_members.specs.Members.{IsPlace, place_of}
use Rattle.pt_recover.specs.declared.trace.TracedRun.{TracedRun}
use Rattle.pt_members.specs.declared.layout.Slice.{Slice}

pub in_none : (s : ℕ) → ¬ IsIn [] s
unfolding IsIn
in_none s none = none

pub in_more : (rs : List TracedRun) (r : TracedRun) (s : ℕ) → IsIn (r ∷ rs) s ↔ (InRun r s ⊎ IsIn rs s)
unfolding IsIn
in_more rs r s = (λ h. h, λ h. h)

in_push_there : (q r : TracedRun) (rs : List TracedRun) (s : ℕ) → (IsIn (rs ++ r ∷ []) s → IsIn rs s ⊎ InRun r s)
    → IsIn (q ∷ (rs ++ r ∷ [])) s → IsIn (q ∷ rs) s ⊎ InRun r s
unfolding IsIn
in_push_there q r rs s later (inl here) = inl (inl here)
in_push_there q r rs s later (inr there) = elim (later there) [ inl was ↦ inl (inr was) | inr last ↦ inr last ]

in_push_back : (q r : TracedRun) (rs : List TracedRun) (s : ℕ) → (IsIn rs s ⊎ InRun r s → IsIn (rs ++ r ∷ []) s)
    → IsIn (q ∷ rs) s ⊎ InRun r s → IsIn (q ∷ (rs ++ r ∷ [])) s
unfolding IsIn
in_push_back q r rs s later (inl (inl here)) = inl here
in_push_back q r rs s later (inl (inr was)) = inr (later (inl was))
in_push_back q r rs s later (inr last) = inr (later (inr last))

-- one more at the end
pub in_push : (rs : List TracedRun) (r : TracedRun) (s : ℕ) → IsIn (rs ++ r ∷ []) s ↔ (IsIn rs s ⊎ InRun r s)
unfolding IsIn
in_push [] r s = (λ h. elim h [ inl here ↦ inr here | inr none ↦ inl none ], λ h. elim h [ inl none ↦ inr none | inr here ↦ inl here ])
in_push (q ∷ rs) r s = (in_push_there q r rs s (in_push rs r s).0, in_push_back q r rs s (in_push rs r s).1)

-- the runs from a place on
pub in_here : (rs : List TracedRun) (k : ℕ) (z r : TracedRun) (s : ℕ) → k < length rs → get_or rs k z ≡ r → InRun r s → IsIn rs s
unfolding IsIn
in_here [] k z r s lt at here = absurd (omega arith)
in_here (q ∷ rs) zero z r s lt at here = inl (subst (λ (x : TracedRun). InRun x s) (sym at) here)
in_here (q ∷ rs) (suc k) z r s lt at here = inr (in_here rs k z r s (omega arith) at here)

pub in_later : (rs : List TracedRun) (k : ℕ) (z r : TracedRun) (s : ℕ) → k < length rs → get_or rs k z ≡ r → ¬ InRun r s
    → (IsIn rs s → IsIn (drop k rs) s) → IsIn rs s → IsIn (drop (k + 1) rs) s
unfolding IsIn
in_later rs k z r s lt at out before is =
    let split : drop k rs ≡ r ∷ drop (k + 1) rs = drop_more rs k z lt ∙ ap (λ (x : TracedRun). x ∷ drop (k + 1) rs) at in
    let later : InRun r s ⊎ IsIn (drop (k + 1) rs) s = subst (λ (l : List TracedRun). IsIn l s) split (before is) in
    elim later [ inl here ↦ absurd (out here) | inr there ↦ there ]

pub in_past : (rs : List TracedRun) (k : ℕ) (s : ℕ) → length rs ≤ k → (IsIn rs s → IsIn (drop k rs) s) → ¬ IsIn rs s
unfolding IsIn
in_past rs k s past before is = subst (λ (l : List TracedRun). IsIn l s) (drop_all k rs past) (before is)

pub adds_none : (old new : List TracedRun) (S : ℕ → Type 0) → new ≡ old → ((s : ℕ) → ¬ S s) → Adds old new S
adds_none old new S same none s =
    subst (λ (l : List TracedRun). IsIn l s ↔ (IsIn old s ⊎ S s)) (sym same)
    (λ h. inl h, λ h. elim h [ inl was ↦ was | inr is ↦ absurd (none s is) ])

pub adds_same : (old new : List TracedRun) (S T : ℕ → Type 0) → Adds old new S → ((s : ℕ) → T s ↔ S s) → Adds old new T
adds_same old new S T adds same s = (
  λ h. elim ((adds s).0 h) [ inl was ↦ inl was | inr is ↦ inr ((same s).1 is) ],
  λ h. elim h [ inl was ↦ (adds s).1 (inl was) | inr is ↦ (adds s).1 (inr ((same s).0 is)) ],
)

pub adds_both : (old mid new : List TracedRun) (S T U : ℕ → Type 0) → Adds old mid S → Adds mid new T → ((s : ℕ) → U s ↔ (S s ⊎ T s))
    → Adds old new U
adds_both old mid new S T U first second both s = (
  λ h. elim ((second s).0 h) [
    | inl was ↦ elim ((first s).0 was) [ inl before ↦ inl before | inr is ↦ inr ((both s).1 (inl is)) ]
    | inr is ↦ inr ((both s).1 (inr is))
  ],
  λ h. elim h [
    | inl was ↦ (second s).1 (inl ((first s).1 (inl was)))
    | inr is ↦ elim ((both s).0 is) [ inl here ↦ (second s).1 (inl ((first s).1 (inr here))) | inr there ↦ (second s).1 (inr there) ]
  ],
)

pub adds_one : (old new : List TracedRun) (at : ℕ) → Adds old new (λ s. (at ≤ s) × (s ≤ at)) → Adds old new (λ s. s ≡ at)
adds_one old new at adds =
    adds_same old new (λ s. (at ≤ s) × (s ≤ at)) (λ s. s ≡ at) adds
    (λ s. (λ e. (omega (arith, e), omega (arith, e)), λ h. omega (arith, h.0, h.1)))

-- what a trace and the rest will have together
abbrev pub Left : List TracedRun → List TracedRun → (ℕ → Type 0) → (ℕ → Type 0) → Type 0
Left old now All Rest = (s : ℕ) → (IsIn now s ⊎ Rest s) ↔ (IsIn old s ⊎ All s)

pub left_first : (old : List TracedRun) (All : ℕ → Type 0) → Left old old All All
left_first old All s = (λ h. h, λ h. h)

left_more : (old now new : List TracedRun) (All Rest More One : ℕ → Type 0) → Left old now All Rest
    → ((s : ℕ) → Rest s ↔ (One s ⊎ More s)) → Adds now new One → Left old new All More
left_more old now new All Rest More One left split adds s = (
  λ h. elim h [
    | inl is ↦ elim ((adds s).0 is) [ inl was ↦ (left s).0 (inl was) | inr one ↦ (left s).0 (inr ((split s).1 (inl one))) ]
    | inr more ↦ (left s).0 (inr ((split s).1 (inr more)))
  ],
  λ h. elim ((left s).1 h) [
    | inl was ↦ inl ((adds s).1 (inl was))
    | inr rest ↦ elim ((split s).0 rest) [ inl one ↦ inl ((adds s).1 (inr one)) | inr more ↦ inr more ]
  ],
)

left_end : (old new : List TracedRun) (All Rest : ℕ → Type 0) → Left old new All Rest → ((s : ℕ) → ¬ Rest s) → Adds old new All
left_end old new All Rest left none s =
    (λ h. (left s).0 (inl h), λ h. elim ((left s).1 h) [ inl is ↦ is | inr rest ↦ absurd (none s rest) ])

pub chain_more : (old now new : List TracedRun) (es : List Ebr) (k : ℕ) (z e : Ebr) → k < length es → get_or es k z ≡ e
    → Left old now (λ s. StandsAt s es) (λ s. StandsAt s (drop k es)) → Adds now new (λ s. s ≡ e.at.0)
    → Left old new (λ s. StandsAt s es) (λ s. StandsAt s (drop (k + 1) es))
chain_more old now new es k z e lt at left adds =
    left_more old now new (λ s. StandsAt s es) (λ s. StandsAt s (drop k es)) (λ s. StandsAt s (drop (k + 1) es)) (λ s. s ≡ e.at.0) left
    (λ s. let split : drop k es ≡ e ∷ drop (k + 1) es = drop_more es k z lt ∙ ap (λ (x : Ebr). x ∷ drop (k + 1) es) at in
    subst (λ (l : List Ebr). StandsAt s l ↔ ((s ≡ e.at.0) ⊎ StandsAt s (drop (k + 1) es))) (sym split) (λ h. h, λ h. h)) adds

pub chain_end : (old new : List TracedRun) (es : List Ebr) (k : ℕ) → length es ≤ k
    → Left old new (λ s. StandsAt s es) (λ s. StandsAt s (drop k es)) → Adds old new (λ s. StandsAt s es)
chain_end old new es k past left =
    left_end old new (λ s. StandsAt s es) (λ s. StandsAt s (drop k es)) left
    (λ s at. subst (λ (l : List Ebr). StandsAt s l) (drop_all k es past) at)

pub place_more : (old now new : List TracedRun) (ps : List Slice) (k : ℕ) (z p : Slice) → k < length ps → get_or ps k z ≡ p
    → Left old now (IsPlace ps) (IsPlace (drop k ps)) → Adds now new (λ s. s ≡ place_of p)
    → Left old new (IsPlace ps) (IsPlace (drop (k + 1) ps))
place_more old now new ps k z p lt at left adds =
    left_more old now new (IsPlace ps) (IsPlace (drop k ps)) (IsPlace (drop (k + 1) ps)) (λ s. s ≡ place_of p) left
    (λ s. let split : drop k ps ≡ p ∷ drop (k + 1) ps = drop_more ps k z lt ∙ ap (λ (x : Slice). x ∷ drop (k + 1) ps) at in
    subst (λ (l : List Slice). IsPlace l s ↔ ((s ≡ place_of p) ⊎ IsPlace (drop (k + 1) ps) s)) (sym split) (λ h. h, λ h. h)) adds

pub place_end : (old new : List TracedRun) (ps : List Slice) (k : ℕ) → length ps ≤ k → Left old new (IsPlace ps) (IsPlace (drop k ps))
    → Adds old new (IsPlace ps)
place_end old new ps k past left =
    left_end old new (IsPlace ps) (IsPlace (drop k ps)) left (λ s at. subst (λ (l : List Slice). IsPlace l s) (drop_all k ps past) at)
