-- Slices and labels side by side, one more at a time.
use Rattle.std.proofs.Common.{◌≡◌, ◌<◌, ◌≤◌, ◌+◌, ◌∙◌, ℕ, zero, suc, List, [], ◌∷◌, ◌++◌, length, get_or, drop, map, Option, Some, None}
use Rattle.std.proofs.Common.{sym, ap, subst, arith, inl, inr, append_assoc}
use Rattle.std.proofs.lemmas.List.{append-nil, drop_more, drop_all, map_push, length-drop}
use Rattle.pt_bsd.specs.declared.label.Label.{Label}
use Rattle.pt_recover.specs.inner.Denotes.{labelled}
use Rattle.pt_members.specs.declared.layout.Labelled.{Labelled}
use Rattle.pt_members.specs.declared.layout.Slice.{Slice}
use Rattle.pt_cases.specs.Writes.{NumbersAscend}
use Rattle.pt_planner.specs.inner.Places.{TakesLabel, Fit, slice_of, labels_of}
use Rattle.pt_planner.specs.declared.places.place.Spot.{Spot}

head_low : (low : ℕ) (ps : List Slice) (x : Labelled) (rest : List Labelled) → NumbersAscend low ps → Fit ps (x ∷ rest) → low ≤ x.number
head_low low [] x rest rise is = absurd cc
head_low low (q ∷ ps) x rest rise (inl (m, more, same, it, later)) =
    let here : x ≡ record { number = q.number; label = m } = cc in
    let number : x.number ≡ q.number = ap (λ (y : Labelled). y.number) here in
    omega (arith, rise.0, number)
head_low low (q ∷ ps) x rest rise (inr (it, later)) = (let up = head_low (q.number + 1) ps x rest rise.1 later in omega (arith, rise.0, up))

fit_more : (q : Slice) (ps : List Slice) (ls : List Labelled) (from to : ℕ) (o : Option Label) → NumbersAscend (q.number + 1) ps
    → TakesLabel q.number ls from to o → Fit (q ∷ ps) (drop from ls) → Fit ps (drop to ls)
fit_more q ps ls from to (Some l) rise (next, same) fit = by_case (subst (λ (x : List Labelled). Fit (q ∷ ps) x) same fit) where
  one : Labelled
  one = record { number = q.number; label = l }

  by_case : Fit (q ∷ ps) (record { number = q.number; label = l } ∷ drop to ls) → Fit ps (drop to ls)
  by_case (inl (m, rest, is, it, later)) = (let left : rest ≡ drop to ls = cc in subst (λ (x : List Labelled). Fit ps x) left later)
  by_case (inr (it, later)) =
      (let up = head_low (q.number + 1) ps (record { number = q.number; label = l }) (drop to ls) rise later in absurd (omega (arith, up)))
fit_more q ps ls from to None rise (next, none) (inl (m, rest, is, it, later)) = absurd (none m rest is)
fit_more q ps ls from to None rise (next, none) (inr (it, later)) = subst (λ (j : ℕ). Fit ps (drop j ls)) (sym next) later

rise_drop : (low k : ℕ) (ps : List Slice) → NumbersAscend low ps → (more : ℕ) × NumbersAscend more (drop k ps)
rise_drop low zero ps is = (low, is)
rise_drop low (suc k) [] is = (low, tt)
rise_drop low (suc k) (p ∷ ps) is = rise_drop (p.number + 1) k ps is.1

-- a slice more, with its label or with none
pub fits_on : (ps : List Slice) (ls : List Labelled) (k from to : ℕ) (z : Slice) (o : Option Label) → k < length ps → NumbersAscend 1 ps
    → TakesLabel (get_or ps k z).number ls from to o → Fit (drop k ps) (drop from ls) → Fit (drop (k + 1) ps) (drop to ls)
fits_on ps ls k from to z o lt rise takes fit =
    let split : drop k ps ≡ get_or ps k z ∷ drop (k + 1) ps = drop_more ps k z lt in
    let up = rise_drop 1 k ps rise in
    let rises : NumbersAscend up.0 (get_or ps k z ∷ drop (k + 1) ps) = subst (λ (x : List Slice). NumbersAscend up.0 x) split up.1 in
    fit_more (get_or ps k z) (drop (k + 1) ps) ls from to o rises.1 takes (subst (λ (x : List Slice). Fit x (drop from ls)) split fit)

-- a label that is left over goes with no slice
pub left_over : (ps : List Slice) (ls : List Labelled) (k from : ℕ) → length ps ≤ k → from < length ls → ¬ Fit (drop k ps) (drop from ls)
left_over ps ls k from all lt fit =
    let none : drop from ls ≡ [] = subst (λ (x : List Slice). Fit x (drop from ls)) (drop_all k ps all) fit in
    let empty : length (drop from ls) ≡ 0 = ap length none in
    let left = length-drop from ls in
    omega (arith, empty, left, lt)

labels_push : (ss : List Spot) (s : Spot) → labels_of (ss ++ s ∷ []) ≡ labels_of ss ++ labelled s.slice.number s.label
labels_push [] s = append-nil (labelled s.slice.number s.label)
labels_push (x ∷ ss) s =
    ap (λ (y : List Labelled). labelled x.slice.number x.label ++ y) (labels_push ss s)
    ∙ sym (append_assoc (labelled x.slice.number x.label) (labels_of ss) (labelled s.slice.number s.label))

taken : (n : ℕ) (ls : List Labelled) (from to : ℕ) (o : Option Label) → TakesLabel n ls from to o → labelled n o ++ drop to ls
    ≡ drop from ls
taken n ls from to (Some l) (next, same) = sym same
taken n ls from to None (next, none) = ap (λ (j : ℕ). drop j ls) next

pub labels_on : (ss : List Spot) (s : Spot) (ls : List Labelled) (from to : ℕ) → TakesLabel s.slice.number ls from to s.label
    → labels_of ss ++ drop from ls ≡ ls → labels_of (ss ++ s ∷ []) ++ drop to ls ≡ ls
labels_on ss s ls from to takes before =
    ap (λ (y : List Labelled). y ++ drop to ls) (labels_push ss s)
    ∙ append_assoc (labels_of ss) (labelled s.slice.number s.label) (drop to ls)
    ∙ ap (λ (y : List Labelled). labels_of ss ++ y) (taken s.slice.number ls from to s.label takes)
    ∙ before

pub slices_on : (ss : List Spot) (s : Spot) (ps : List Slice) (k : ℕ) (z : Slice) → k < length ps → s.slice ≡ get_or ps k z
    → map slice_of ss ++ drop k ps ≡ ps → map slice_of (ss ++ s ∷ []) ++ drop (k + 1) ps ≡ ps
slices_on ss s ps k z lt is before =
    ap (λ (y : List Slice). y ++ drop (k + 1) ps) (map_push slice_of ss s)
    ∙ append_assoc (map slice_of ss) (s.slice ∷ []) (drop (k + 1) ps)
    ∙ ap (λ (q : Slice). map slice_of ss ++ (q ∷ drop (k + 1) ps)) is
    ∙ ap (λ (y : List Slice). map slice_of ss ++ y) (sym (drop_more ps k z lt))
    ∙ before

pub slices_end : (ss : List Spot) (ps : List Slice) (k : ℕ) → length ps ≤ k → map slice_of ss ++ drop k ps ≡ ps → map slice_of ss ≡ ps
slices_end ss ps k all before =
    sym (append-nil (map slice_of ss)) ∙ ap (λ (y : List Slice). map slice_of ss ++ y) (sym (drop_all k ps all)) ∙ before

pub labels_end : (ss : List Spot) (ls : List Labelled) (from : ℕ) → length ls ≤ from → labels_of ss ++ drop from ls ≡ ls → labels_of ss ≡ ls
labels_end ss ls from all before =
    sym (append-nil (labels_of ss)) ∙ ap (λ (y : List Labelled). labels_of ss ++ y) (sym (drop_all from ls all)) ∙ before
