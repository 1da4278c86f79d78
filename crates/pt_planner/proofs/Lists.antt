-- Places that were read, as slices and labels side by side.
use Rattle.std.proofs.Common.{◌≡◌, ◌≤◌, ◌+◌, ◌∙◌, ℕ, zero, suc, List, [], ◌∷◌, ◌++◌, length, map, Option, Some, None, refl, sym, ap}
use Rattle.std.proofs.Common.{subst, arith, inl, inr}
use Rattle.std.specs.Prelude.{Contains}
use Rattle.std.proofs.lemmas.List.Elements.{Contains-append_left, Contains-append_right}
use Rattle.pt_bsd.specs.declared.label.Label.{Label}
use Rattle.pt_members.specs.Members.{place_of, IsPlace}
use Rattle.pt_recover.specs.inner.Denotes.{labelled}
use Rattle.pt_members.specs.declared.layout.Labelled.{Labelled}
use Rattle.pt_members.specs.declared.layout.Slice.{Slice}
use Rattle.pt_cases.specs.Writes.{NumbersAscend, Along}
use Rattle.pt_cases.specs.declared.targets.target.Target.{Target}
use Rattle.pt_planner.specs.inner.Places.{spot_of, IsTargetOf, AreTargets, slice_of, labels_of}
use Rattle.pt_planner.specs.declared.places.place.Place.{Place}

-- the slices of some places
abbrev pub slices_in : {b : ℕ} → List (Place b) → List Slice
slices_in ps = map slice_of (map spot_of ps)

abbrev pub labels_in : {b : ℕ} → List (Place b) → List Labelled
labels_in ps = labels_of (map spot_of ps)

along_one : (Q : Slice → Option Label → Type 0) (w : Slice) (o : Option Label) (ws : List Slice) (ls : List Labelled) → Q w o
    → Along Q ws ls → Along Q (w ∷ ws) (labelled w.number o ++ ls)
along_one Q w None ws ls here later = inr (here, later)
along_one Q w (Some l) ws ls here later = inl (l, ls, refl, here, later)

pub later_in : {b : ℕ} (p q : Place b) (ps : List (Place b)) → Contains ps q → Contains (p ∷ ps) q
later_in p q ps has = (suc has.0, omega (arith, has.1), has.2)

pub first_in : {b : ℕ} (p : Place b) (ps : List (Place b)) → Contains (p ∷ ps) p
first_in p ps = (0, omega arith, refl)

pub along_places : {b : ℕ} (Q : Slice → Option Label → Type 0) (ps : List (Place b))
    → ((p : Place b) → Contains ps p → Q p.spot.slice p.spot.label) → Along Q (slices_in ps) (labels_in ps)
along_places Q [] each = refl
along_places Q (p ∷ ps) each =
    along_one Q p.spot.slice p.spot.label (slices_in ps) (labels_in ps) (each p (first_in p ps))
    (along_places Q ps (λ q has. each q (later_in p q ps has)))

pub low_in : {b : ℕ} (low : ℕ) (ps : List (Place b)) (q : Place b) → NumbersAscend low (slices_in ps) → Contains ps q
    → low ≤ q.spot.slice.number
low_in low [] q rise (k, lt, at) = absurd (omega (arith, lt))
low_in {b = b} low (p ∷ ps) q rise (zero, lt, at) =
    (let same : p.spot.slice.number ≡ q.spot.slice.number = ap (λ (x : Place b). x.spot.slice.number) at in omega (arith, rise.0, same))
low_in low (p ∷ ps) q rise (suc k, lt, at) =
    (let up = low_in (p.spot.slice.number + 1) ps q rise.1 (k, omega (arith, lt), at) in omega (arith, rise.0, up))

-- two places of one number are one
pub one_place : {b : ℕ} (low : ℕ) (ps : List (Place b)) (p q : Place b) → NumbersAscend low (slices_in ps) → Contains ps p → Contains ps q
    → p.spot.slice.number ≡ q.spot.slice.number → p ≡ q
one_place low [] p q rise (k, lt, at) other same = absurd (omega (arith, lt))
one_place low (r ∷ ps) p q rise (zero, lt, at) (zero, above, is) same = sym at ∙ is
one_place {b = b} low (r ∷ ps) p q rise (zero, lt, at) (suc j, above, is) same =
    let up = low_in (r.spot.slice.number + 1) ps q rise.1 (j, omega (arith, above), is) in
    let here : r.spot.slice.number ≡ p.spot.slice.number = ap (λ (x : Place b). x.spot.slice.number) at in
    absurd (omega (arith, up, here, same))
one_place {b = b} low (r ∷ ps) p q rise (suc k, lt, at) (zero, above, is) same =
    let up = low_in (r.spot.slice.number + 1) ps p rise.1 (k, omega (arith, lt), at) in
    let here : r.spot.slice.number ≡ q.spot.slice.number = ap (λ (x : Place b). x.spot.slice.number) is in
    absurd (omega (arith, up, here, same))
one_place low (r ∷ ps) p q rise (suc k, lt, at) (suc j, above, is) same =
    one_place (r.spot.slice.number + 1) ps p q rise.1 (k, omega (arith, lt), at) (j, omega (arith, above), is) same

pub rise_split : {b : ℕ} (low : ℕ) (xs : List (Place b)) (p : Place b) (ys : List (Place b))
    → NumbersAscend low (slices_in (xs ++ p ∷ ys)) → NumbersAscend p.spot.slice.number (slices_in (p ∷ ys))
rise_split low [] p ys rise = (omega arith, rise.1)
rise_split low (x ∷ xs) p ys rise = rise_split (x.spot.slice.number + 1) xs p ys rise.1

pub slice_in : {b : ℕ} (ps : List (Place b)) (p : Place b) → Contains ps p → Contains (slices_in ps) p.spot.slice
slice_in [] p (k, lt, at) = absurd (omega (arith, lt))
slice_in {b = b} (q ∷ ps) p (zero, lt, at) = (0, omega arith, ap (λ (x : Place b). x.spot.slice) at)
slice_in (q ∷ ps) p (suc k, lt, at) = (let more = slice_in ps p (k, omega (arith, lt), at) in (suc more.0, omega (arith, more.1), more.2))

pub label_in : {b : ℕ} (ps : List (Place b)) (p : Place b) (l : Label) → Contains ps p → p.spot.label ≡ Some l
    → Contains (labels_in ps) (record { number = p.spot.slice.number; label = l })
label_in [] p l (k, lt, at) is = absurd (omega (arith, lt))
label_in {b = b} (q ∷ ps) p l (zero, lt, at) is =
    let it : Labelled = record { number = p.spot.slice.number; label = l } in
    let one : labelled q.spot.slice.number q.spot.label ≡ it ∷ [] =
    ap (λ (x : Place b). labelled x.spot.slice.number x.spot.label) at ∙ ap (λ (o : Option Label). labelled p.spot.slice.number o) is in
    let here : Contains (it ∷ []) it = (0, omega arith, refl) in
    Contains-append_left (labelled q.spot.slice.number q.spot.label) (labels_in ps) it
    (subst (λ (x : List Labelled). Contains x it) (sym one) here)
label_in (q ∷ ps) p l (suc k, lt, at) is =
    Contains-append_right (labelled q.spot.slice.number q.spot.label) (labels_in ps) (record { number = p.spot.slice.number; label = l })
    (label_in ps p l (k, omega (arith, lt), at) is)

pub place_in : {b : ℕ} (ps : List (Place b)) (p : Place b) → Contains ps p → IsPlace (slices_in ps) (place_of p.spot.slice)
place_in [] p (k, lt, at) = absurd (omega (arith, lt))
place_in {b = b} (q ∷ ps) p (zero, lt, at) = inl (ap (λ (x : Place b). place_of x.spot.slice) (sym at))
place_in (q ∷ ps) p (suc k, lt, at) = inr (place_in ps p (k, omega (arith, lt), at))

-- each place has its target
pub pair_left : {b : ℕ} (old : List Slice) (ps : List (Place b)) (ts : List (Target b)) (p : Place b) → AreTargets old ps ts
    → Contains ps p → (t : Target b) × Contains ts t × IsTargetOf old p t
pair_left old [] ts p are (k, lt, at) = absurd (omega (arith, lt))
pair_left old (q ∷ ps) [] p are has = absurd are
pair_left {b = b} old (q ∷ ps) (t ∷ ts) p are (zero, lt, at) =
    (t, (0, omega arith, refl), subst (λ (x : Place b). IsTargetOf old x t) at are.0)
pair_left old (q ∷ ps) (t ∷ ts) p are (suc k, lt, at) =
    let more = pair_left old ps ts p are.1 (k, omega (arith, lt), at) in
    let has = more.1 in
    (more.0, (suc has.0, omega (arith, has.1), has.2), more.2)

-- and each target its place
pub pair_right : {b : ℕ} (old : List Slice) (ps : List (Place b)) (ts : List (Target b)) (t : Target b) → AreTargets old ps ts
    → Contains ts t → (p : Place b) × Contains ps p × IsTargetOf old p t
pair_right old ps [] t are (k, lt, at) = absurd (omega (arith, lt))
pair_right old [] (u ∷ ts) t are has = absurd are
pair_right {b = b} old (q ∷ ps) (u ∷ ts) t are (zero, lt, at) = (q, first_in q ps, subst (λ (x : Target b). IsTargetOf old q x) at are.0)
pair_right old (q ∷ ps) (u ∷ ts) t are (suc k, lt, at) =
    let more = pair_right old ps ts t are.1 (k, omega (arith, lt), at) in
    (more.0, later_in q more.0 ps more.1, more.2)

pub pair_count : {b : ℕ} (old : List Slice) (ps : List (Place b)) (ts : List (Target b)) → AreTargets old ps ts
    → length ts ≡ length (slices_in ps)
pair_count old [] [] are = refl
pair_count old [] (t ∷ ts) are = absurd are
pair_count old (p ∷ ps) [] are = absurd are
pair_count old (p ∷ ps) (t ∷ ts) are = ap suc (pair_count old ps ts are.1)
