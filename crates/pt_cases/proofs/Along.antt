-- Lemmas on specs/Writes.antt: the label places of a layout and its labels, side by side.
use Rattle.std.specs.Prelude.{zero, suc, ◌≡◌, ◌≢◌, ◌<◌, ◌≤◌, ◌+◌, ◌∷◌, [], ℕ, Bool, true, false, List, Contains, length, filter, Option}
use Rattle.std.specs.Prelude.{Some, None}
use Rattle.std.proofs.Common.{refl, sym, ap, subst, ◌∙◌, arith, inl, inr}
use Rattle.std.proofs.lemmas.Bool.{eq-eqb, ne_eqb}
use Rattle.pt_bsd.specs.declared.label.Label.{Label}
use Rattle.pt_members.specs.Members.{slices_of, places_of, has_place, label_of}
use Rattle.pt_members.specs.declared.layout.Slice.{Slice}
use Rattle.pt_members.specs.declared.layout.Labelled.{Labelled}
use Rattle.pt_members.specs.declared.layout.Layout.{Layout}
use Rattle.pt_layout.specs.Sound.{Sound}
use Rattle.pt_members.proofs.Grouped.{contains_head, contains_tail}
use Rattle.pt_cases.specs.Writes.{FitsLabel, AreLabelsOf, Shaped, NumbersAscend, Along, FitsPlace}
use Rattle.pt_cases.proofs.Ascending.{places_ascend_lem, fits_four}
use Rattle.pt_cases.proofs.LabelPlaces.{slice_has_place_lem}
use Rattle.pt_cases.proofs.Stands.{fits_ends}

-- slices that ascend, as far as their numbers tell
pub along_above : (P Q : Slice → Option Label → Type 0) (low : ℕ) (ws : List Slice) (labels : List Labelled) → NumbersAscend low ws
    → ((w : Slice) (l : Option Label) → low ≤ w.number → P w l → Q w l) → Along P ws labels → Along Q ws labels
along_above P Q low [] labels up each is = is
along_above P Q low (w ∷ ws) labels up each (inl (l, rest, same, it, later)) =
    inl (
      l,
      rest,
      same,
      each w (Some l) up.0 it,
      along_above P Q (w.number + 1) ws rest up.1 (λ v m at. each v m (omega (arith, at, up.0))) later,
    )
along_above P Q low (w ∷ ws) labels up each (inr (it, later)) =
    inr (each w None up.0 it, along_above P Q (w.number + 1) ws labels up.1 (λ v m at. each v m (omega (arith, at, up.0))) later)

pub along_map : (P Q : Slice → Option Label → Type 0) (ws : List Slice) (labels : List Labelled)
    → ((w : Slice) (l : Option Label) → P w l → Q w l) → Along P ws labels → Along Q ws labels
along_map P Q [] labels each is = is
along_map P Q (w ∷ ws) labels each (inl (l, rest, same, it, later)) =
    inl (l, rest, same, each w (Some l) it, along_map P Q ws rest each later)
along_map P Q (w ∷ ws) labels each (inr (it, later)) = inr (each w None it, along_map P Q ws labels each later)

first_label : (n : ℕ) (l : Label) (rest labels : List Labelled) → labels ≡ record { number = n; label = l } ∷ rest
    → label_of labels n ≡ Some l
unfolding label_of
first_label n l rest labels same = ap (λ (ls : List Labelled). label_of ls n) same ∙ rw (eq-eqb n n refl, label_of) refl

later_label : (n m : ℕ) (l : Label) (rest labels : List Labelled) → n ≢ m → labels ≡ record { number = n; label = l } ∷ rest
    → label_of labels m ≡ label_of rest m
unfolding label_of
later_label n m l rest labels other same = ap (λ (ls : List Labelled). label_of ls m) same ∙ rw (ne_eqb n m other, label_of) refl

-- a number below those of the slices has no label
none_below : (P : Slice → Option Label → Type 0) (n low : ℕ) (ws : List Slice) (labels : List Labelled) → NumbersAscend low ws → n < low
    → Along P ws labels → label_of labels n ≡ None
unfolding label_of
none_below P n low [] labels up below is = rw (is, label_of) refl
none_below P n low (w ∷ ws) labels up below (inl (l, rest, same, it, later)) =
    later_label w.number n l rest labels (λ e. omega (arith, e, up.0, below)) same
    ∙ none_below P n (w.number + 1) ws rest up.1 (omega (arith, up.0, below)) later
none_below P n low (w ∷ ws) labels up below (inr (it, later)) =
    none_below P n (w.number + 1) ws labels up.1 (omega (arith, up.0, below)) later

-- ascending slices go each with the label of its number
pub along_numbers : (P : Slice → Option Label → Type 0) (low : ℕ) (ws : List Slice) (labels : List Labelled) → NumbersAscend low ws
    → Along P ws labels → Along (λ w l. P w l × (label_of labels w.number ≡ l)) ws labels
along_numbers P low [] labels up is = is
along_numbers P low (w ∷ ws) labels up (inl (l, rest, same, it, later)) =
    inl (
      l,
      rest,
      same,
      (it, first_label w.number l rest labels same),
      along_above (λ v m. P v m × (label_of rest v.number ≡ m)) (λ v m. P v m × (label_of labels v.number ≡ m)) (w.number + 1) ws rest up.1
          (λ v m at has. (has.0, later_label w.number v.number l rest labels (λ e. omega (arith, e, at)) same ∙ has.1))
          (along_numbers P (w.number + 1) ws rest up.1 later),
    )
along_numbers P low (w ∷ ws) labels up (inr (it, later)) =
    inr ((it, none_below P w.number (w.number + 1) ws labels up.1 (omega arith) later), along_numbers P (w.number + 1) ws labels up.1 later)

along_in : (P : Slice → Option Label → Type 0) (ws : List Slice) (labels : List Labelled) (w : Slice) → Along P ws labels
    → Contains ws w → (l : Option Label) × P w l
along_in P [] labels w is (k, lt, at) = absurd (omega (arith, lt))
along_in P (v ∷ ws) labels w (inl (l, rest, same, it, later)) (zero, lt, at) = (Some l, subst (λ (x : Slice). P x (Some l)) at it)
along_in P (v ∷ ws) labels w (inl (l, rest, same, it, later)) (suc k, lt, at) = along_in P ws rest w later (k, omega (arith, lt), at)
along_in P (v ∷ ws) labels w (inr (it, later)) (zero, lt, at) = (None, subst (λ (x : Slice). P x None) at it)
along_in P (v ∷ ws) labels w (inr (it, later)) (suc k, lt, at) = along_in P ws labels w later (k, omega (arith, lt), at)

-- one of them, with the label of its number
pub along_at : (P : Slice → Option Label → Type 0) (low : ℕ) (ws : List Slice) (labels : List Labelled) (w : Slice) → NumbersAscend low ws
    → Along P ws labels → Contains ws w → P w (label_of labels w.number)
along_at P low ws labels w up is has =
    let h = along_in (λ v l. P v l × (label_of labels v.number ≡ l)) ws labels w (along_numbers P low ws labels up is) has in
    subst (λ (l : Option Label). P w l) (sym h.1.1) h.1.0

-- a label of ascending slices is the one of its number
label_there : (P : Slice → Option Label → Type 0) (low : ℕ) (ws : List Slice) (labels : List Labelled) (x : Labelled)
    → NumbersAscend low ws → Along P ws labels → Contains labels x → label_of labels x.number ≡ Some x.label
label_there P low [] labels x up is has =
    (let none : length labels ≡ 0 = ap (λ (l : List Labelled). length l) is in absurd (omega (arith, none, has.1)))
label_there P low (w ∷ ws) labels x up (inl (l, rest, same, it, later)) has =
    by_index (subst (λ (ls : List Labelled). Contains ls x) same has) (label_there P (w.number + 1) ws rest x up.1 later) where
      by_index : Contains (record { number = w.number; label = l } ∷ rest) x → (Contains rest x → label_of rest x.number ≡ Some x.label)
          → label_of labels x.number ≡ Some x.label
      by_index (zero, lt, at) more =
          let number : w.number ≡ x.number = ap (λ (y : Labelled). y.number) at in
          let label : l ≡ x.label = ap (λ (y : Labelled). y.label) at in
          ap (λ (n : ℕ). label_of labels n) (sym number) ∙ (first_label w.number l rest labels same ∙ ap (λ (m : Label). Some m) label)
      by_index (suc k, lt, at) more =
          let there = more (k, omega (arith, lt), at) in
          let none = none_below P w.number (w.number + 1) ws rest up.1 (omega arith) later in
          let other : w.number ≢ x.number =
          λ e. (let both : None ≡ Some x.label = sym none ∙ (ap (λ (n : ℕ). label_of rest n) e ∙ there) in absurd cc) in
          later_label w.number x.number l rest labels other same ∙ there
label_there P low (w ∷ ws) labels x up (inr (it, later)) has = label_there P (w.number + 1) ws labels x up.1 later has

-- the label with a slice's number is the one that it goes with
pub along_label : (P : Slice → Option Label → Type 0) (low : ℕ) (ws : List Slice) (labels : List Labelled) (w : Slice) (l : Label)
    → NumbersAscend low ws → Along P ws labels → Contains ws w → Contains labels (record { number = w.number; label = l }) → P w (Some l)
along_label P low ws labels w l up is stands has =
    let label : label_of labels w.number ≡ Some l = label_there P low ws labels (record { number = w.number; label = l }) up is has in
    subst (λ (m : Option Label). P w m) label (along_at P low ws labels w up is stands)

-- and a slice whose number no label has goes with none
pub along_without : (P : Slice → Option Label → Type 0) (ws : List Slice) (labels : List Labelled) (w : Slice)
    → Along P ws labels → Contains ws w → ((l : Label) → ¬ Contains labels (record { number = w.number; label = l })) → P w None
along_without P [] labels w is (k, lt, at) without = absurd (omega (arith, lt))
along_without P (q ∷ ws) labels w (inl (m, rest, same, it, later)) (zero, lt, at) without =
    let first : Contains labels (record { number = q.number; label = m }) =
    subst (λ (x : List Labelled). Contains x (record { number = q.number; label = m })) (sym same) (0, omega arith, refl) in
    absurd (without m (subst (λ (y : Slice). Contains labels (record { number = y.number; label = m })) at first))
along_without P (q ∷ ws) labels w (inl (m, rest, same, it, later)) (suc k, lt, at) without =
    along_without P ws rest w later (k, omega (arith, lt), at) (λ l has. without l
    (subst (λ (x : List Labelled). Contains x (record { number = w.number; label = l })) (sym same)
    (suc has.0, omega (arith, has.1), has.2)))
along_without P (q ∷ ws) labels w (inr (it, later)) (zero, lt, at) without = subst (λ (y : Slice). P y None) at it
along_without P (q ∷ ws) labels w (inr (it, later)) (suc k, lt, at) without =
    along_without P ws labels w later (k, omega (arith, lt), at) without

-- the labels of slices are those of the slices that have a place, where each that may have a label has one
walk_one : (n : ℕ) (s : Slice) (ss : List Slice) (labels : List Labelled) → Along FitsPlace (filter (has_place n) ss) labels
    → (c : Bool) → has_place n s ≡ c → Along FitsPlace (filter (has_place n) (s ∷ ss)) labels
walk_one n s ss labels later true so =
    (let kept : filter (has_place n) (s ∷ ss) ≡ s ∷ filter (has_place n) ss = rw (so, filter) refl in
    subst (λ (l : List Slice). Along FitsPlace l labels) (sym kept) (inr (tt, later)))
walk_one n s ss labels later false so =
    (let left : filter (has_place n) (s ∷ ss) ≡ filter (has_place n) ss = rw (so, filter) refl in
    subst (λ (l : List Slice). Along FitsPlace l labels) (sym left) later)

walk : (n : ℕ) (ss : List Slice) (labels : List Labelled) → ((s : Slice) → Contains ss s → 2 ≤ s.len → has_place n s ≡ true)
    → AreLabelsOf ss labels → Along FitsPlace (filter (has_place n) ss) labels
walk n [] labels long are = are
walk n (s ∷ ss) labels long (inl (l, rest, same, fits, later)) =
    let kept : filter (has_place n) (s ∷ ss) ≡ s ∷ filter (has_place n) ss = rw (long s (contains_head s ss) fits.second, filter) refl in
    subst (λ (x : List Slice). Along FitsPlace x labels) (sym kept)
    (inl (l, rest, same, fits, walk n ss rest (λ t has. long t (contains_tail s ss t has)) later))
walk n (s ∷ ss) labels long (inr later) =
    walk_one n s ss labels (walk n ss labels (λ t has. long t (contains_tail s ss t has)) later) (has_place n s) refl

places_walk : (b : ℕ) (o : Layout) → Shaped b o → Sound b o → Along FitsPlace (places_of b o.sectors o.body) o.labels
unfolding places_of
places_walk b o shaped sound =
    walk o.sectors (slices_of b o.body) o.labels
    (λ s has long. slice_has_place_lem b o s sound (fits_ends b o.sectors o.body shaped.body) has long) shaped.labels

-- the walk over the label places meets each with its number's label, which fits it, and uses up the labels
pub along_labels_lem : (b : ℕ) (o : Layout) → Shaped b o → Sound b o
    → Along (λ w l. FitsPlace w l × (label_of o.labels w.number ≡ l)) (places_of b o.sectors o.body) o.labels
along_labels_lem b o shaped sound =
    along_numbers FitsPlace 1 (places_of b o.sectors o.body) o.labels
    (places_ascend_lem b o.sectors o.body (fits_four b o.sectors o.body shaped.body)) (places_walk b o shaped sound)

-- so each label goes with a label place
pub labels_fit_lem : (b : ℕ) (o : Layout) → Shaped b o → Sound b o → Along (λ w l. Unit {0}) (places_of b o.sectors o.body) o.labels
labels_fit_lem b o shaped sound =
    along_map FitsPlace (λ w l. Unit {0}) (places_of b o.sectors o.body) o.labels (λ w l fits. tt) (places_walk b o shaped sound)

-- each label fits the slice of its number
pub label_fits_lem : (b : ℕ) (o : Layout) (w : Slice) (l : Label) → Shaped b o → Sound b o → Contains (places_of b o.sectors o.body) w
    → Contains o.labels (record { number = w.number; label = l }) → FitsLabel w l
label_fits_lem b o w l shaped sound stands has =
    let up = places_ascend_lem b o.sectors o.body (fits_four b o.sectors o.body shaped.body) in
    along_label FitsPlace 1 (places_of b o.sectors o.body) o.labels w l up (places_walk b o shaped sound) stands has
