-- The first of some writes, found phase by phase.
use Rattle.std.proofs.Common.{◌≡◌, ◌∙◌, ⊎_elim, ℕ, zero, suc, ◌+◌, ◌-◌, ◌<◌, ◌≤◌, List, [], ◌∷◌, ◌++◌, length, take, drop, get_or}
use Rattle.std.proofs.Common.{slice_get, Some, refl, sym, ap, subst, arith, add-one, length-append, Vec}
use Rattle.std.specs.declared.alloc.Global.{Global}
use Rattle.std.proofs.lemmas.Bool.{cases_order, cases_lt}
use Rattle.std.proofs.lemmas.List.{append_assoc, append-nil, length-map, get_or_default}
use Rattle.std.proofs.lemmas.Option.{slice_get_within}
use Rattle.pt_sector.specs.Sectors.{Sectors, Writes, written}
use Rattle.pt_sector.proofs.Written.{after-take_more}
use Rattle.pt_check.specs.Answers.{phase_at, disk_after, IsFirst, FirstWrite, FirstSector}
use Rattle.pt_apply.proofs.ItemsLemmas.{phase-at}
use Rattle.pt_apply.specs.Plans.{writes_of, writes_in, NoneIs}
use Rattle.pt_apply.specs.inner.Plans.{phases_in}
use Rattle.pt_apply.specs.declared.plan.Write.{Write}
use Rattle.pt_check.specs.inner.Answers.{FirstWriteIs}
use Rattle.pt_check.specs.declared.writes.Found.{Found}

-- phases of a plan

pub length-phases : {b : _} (ps : List (Vec (Write b) Global)) → length (phases_in ps) ≡ length ps
length-phases ps = length-map ps (λ (p : Vec (Write _) Global). writes_of p.items)

-- elements

pub get_left : {X : Type 0} (a b : List X) (k : ℕ) → k < length a → slice_get (a ++ b) k ≡ slice_get a k
get_left [] b k lt = absurd (omega (arith, lt))
get_left (x ∷ a) b zero lt = refl
get_left (x ∷ a) b (suc k) lt = get_left a b k (omega (arith, lt))

pub get_right : {X : Type 0} (a b : List X) (n k : ℕ) → n ≡ length a + k → slice_get (a ++ b) n ≡ slice_get b k
get_right [] b n k is = ap (λ (j : ℕ). slice_get b j) (omega (arith, is))
get_right (x ∷ a) b zero k is = absurd (omega (arith, is))
get_right (x ∷ a) b (suc n) k is = get_right a b n k (omega (arith, is))

pub write_at : {b : _} (ws : List (Write b)) (k : ℕ) (w : Write b) → k < length ws → w ≡ get_or ws k w
    → slice_get (writes_of ws) k ≡ Some (w.lba.0, w.bytes)
write_at [] k w lt is = absurd (omega (arith, lt))
write_at (x ∷ ws) zero w lt is = ap (λ (y : Write _). Some (y.lba.0, y.bytes)) (sym is)
write_at (x ∷ ws) (suc k) w lt is = write_at ws k w (omega (arith, lt)) is

module _ {X : Type 0} (P : X → Type 0) where
  pub none_more : (xs : List X) (k : ℕ) (x : X) → ((j : ℕ) (y : X) → j < k → slice_get xs j ≡ Some y → ¬ P y) → slice_get xs k ≡ Some x
      → ¬ P x
      → (j : ℕ) (y : X) → j < k + 1 → slice_get xs j ≡ Some y → ¬ P y
  none_more xs k x before at isnt j y lt here it = ⊎_elim
      (λ is. isnt (subst P (let same : Some y ≡ Some x = sym here ∙ ap (λ (i : ℕ). slice_get xs i) is ∙ at in cc) it))
      (λ rest. ⊎_elim (λ less. before j y less here it) (λ more. absurd (omega (arith, lt, more))) rest)
      (cases_order j k)

  pub none_past : (xs : List X) → ((j : ℕ) (y : X) → j < length xs → slice_get xs j ≡ Some y → ¬ P y) → NoneIs P xs
  none_past xs before k x at = before k x (slice_get_within xs k x at) at

  pub none_both : (a c : List X) → NoneIs P a → NoneIs P c → NoneIs P (a ++ c)
  none_both [] c no_a no_c k y at = no_c k y at
  none_both (x ∷ a) c no_a no_c zero y at = no_a zero y at
  none_both (x ∷ a) c no_a no_c (suc k) y at = none_both a c (λ j z here. no_a (suc j) z here) no_c k y at

  pub first_after : (a c e : List X) (k n : ℕ) (x : X) → n ≡ length a + k → k < length c → NoneIs P a → IsFirst P c k x
      → IsFirst P (a ++ (c ++ e)) n x
  first_after a c e k n x is lt no_a first = record {
    at = get_right a (c ++ e) n k is ∙ get_left c e k lt ∙ first.at;
    is = first.is;
    none_before = λ j y less at. ⊎_elim (λ low. no_a j y (sym (get_left a (c ++ e) j low) ∙ at)) (λ high. later j y less high at)
        (cases_lt j (length a));
  }
    where
      later : (j : ℕ) (y : X) → j < n → length a ≤ j → slice_get (a ++ (c ++ e)) j ≡ Some y → ¬ P y
      later j y less high at = first.none_before (j - length a) y (omega (arith, less, high, is))
          (sym (get_right a (c ++ e) j (j - length a) (omega (arith, high))
          ∙ get_left c e (j - length a) (omega (arith, less, high, is, lt))) ∙ at)

-- phases

pub split_phases : (ps : List Writes) (i : ℕ) → i < length ps
    → writes_in ps ≡ writes_in (take i ps) ++ (get_or ps i [] ++ writes_in (drop (i + 1) ps))
split_phases [] i lt = absurd (omega (arith, lt))
split_phases (p ∷ ps) zero lt = refl
split_phases (p ∷ ps) (suc i) lt =
    rw add-one (ap (λ (l : Writes). p ++ l) (rw add-one at (split_phases ps i (omega (arith, lt))))
    ∙ sym (append_assoc p (writes_in (take i ps)) (get_or ps i [] ++ writes_in (drop (suc i) ps))))

pub take_phase : (ps : List Writes) (i : ℕ) → i < length ps → writes_in (take (i + 1) ps) ≡ writes_in (take i ps) ++ get_or ps i []
take_phase [] i lt = absurd (omega (arith, lt))
take_phase (p ∷ ps) zero lt = append-nil p
take_phase (p ∷ ps) (suc i) lt =
    rw add-one (ap (λ (l : Writes). p ++ l) (rw add-one at (take_phase ps i (omega (arith, lt))))
    ∙ sym (append_assoc p (writes_in (take i ps)) (get_or ps i [])))

-- the phase at an index of a plan, and how far the writes have come

module _ {b : _} (ps : List (Vec (Write b) Global)) (i : ℕ) (p : Vec (Write b) Global) (lt : i < length ps) (is : p ≡ get_or ps i p) where
  below : i < length (phases_in ps)
  below = omega (arith, lt, length-phases ps)

  pub writes_on : writes_in (take (i + 1) (phases_in ps)) ≡ writes_in (take i (phases_in ps)) ++ writes_of p.items
  writes_on = take_phase (phases_in ps) i below ∙ ap (λ (l : Writes). writes_in (take i (phases_in ps)) ++ l) (phase-at ps i p lt is)

  pub writes_split : writes_in (phases_in ps) ≡ writes_in (take i (phases_in ps)) ++
      (writes_of p.items ++ writes_in (drop (i + 1) (phases_in ps)))
  writes_split =
      split_phases (phases_in ps) i below
      ∙ ap (λ (l : Writes). writes_in (take i (phases_in ps)) ++ (l ++ writes_in (drop (i + 1) (phases_in ps)))) (phase-at ps i p lt is)

  pub count_on : length (writes_in (take (i + 1) (phases_in ps))) ≡ length (writes_in (take i (phases_in ps))) + length p.items
  count_on =
      ap length writes_on ∙ length-append (writes_in (take i (phases_in ps))) (writes_of p.items)
      ∙ ap (λ (n : ℕ). length (writes_in (take i (phases_in ps))) + n) (length-map p.items (λ (w : Write _). (w.lba.0, w.bytes)))

  pub count_within : length (writes_in (take i (phases_in ps))) + length p.items ≤ length (writes_in (phases_in ps))
  count_within =
      let whole : length (writes_in (phases_in ps)) ≡ length
      (writes_in (take i (phases_in ps))) + (length (writes_of p.items) + length (writes_in (drop (i + 1) (phases_in ps)))) =
      ap length writes_split ∙ length-append (writes_in (take i (phases_in ps)))
      (writes_of p.items ++ writes_in (drop (i + 1) (phases_in ps)))
      ∙ ap (λ (n : ℕ). length (writes_in (take i (phases_in ps))) + n)
      (length-append (writes_of p.items) (writes_in (drop (i + 1) (phases_in ps)))) in
      let len : length (writes_of p.items) ≡ length p.items = length-map p.items (λ (w : Write _). (w.lba.0, w.bytes)) in
      omega (arith, whole, len)

  -- with the phase as it was lent, and the plan too
  pub sum_within : (all : List (Vec (Write b) Global)) (ws : List (Write b)) (before k : ℕ) → ps ≡ all
      → length (writes_in (phases_in all)) ≤ 4096 → ws ≡ p.items
      → before ≡ length (writes_in (take i (phases_in ps))) → k ≤ length ws → before + k ≤ 4096
  sum_within all ws before k whole few items count le =
      let few_here : length (writes_in (phases_in ps)) ≤ 4096 =
      subst (λ (l : List (Vec (Write b) Global)). length (writes_in (phases_in l)) ≤ 4096) (sym whole) few in
      omega (arith, few_here, ap length items, count, le, count_within)

  pub more_than : (all : List (Vec (Write b) Global)) (before : ℕ) → ps ≡ all → before ≡ length (writes_in (take i (phases_in ps)))
      → 4096 < before + length p.items → 4096 < length (writes_in (phases_in all))
  more_than all before whole count many =
      subst (λ (l : List (Vec (Write b) Global)). 4096 < length (writes_in (phases_in l))) whole (omega (arith, many, count, count_within))

  -- the first in phase i is the first of all, where there is none before
  pub first_of_all : (P : ℕ × List ℕ → Type 0) (k n : ℕ) (w : ℕ × List ℕ) → n ≡ length (writes_in (take i (phases_in ps))) + k
      → k < length p.items
      → NoneIs P (writes_in (take i (phases_in ps))) → IsFirst P (writes_of p.items) k w → IsFirst P (writes_in (phases_in ps)) n w
  first_of_all P k n w at low nothing first =
      subst (λ (l : Writes). IsFirst P l n w) (sym writes_split)
      (first_after P (writes_in (take i (phases_in ps))) (writes_of p.items) (writes_in (drop (i + 1) (phases_in ps))) k n w at
      (let len : length (writes_of p.items) ≡ length p.items = length-map p.items (λ (v : Write _). (v.lba.0, v.bytes)) in
      omega (arith, low, len)) nothing first)

-- what is found stands in the list
pub first_within : {b : _} (P : ℕ × List ℕ → Type 0) (ws : List (Write b)) (k : ℕ) (w : ℕ × List ℕ) → IsFirst P (writes_of ws) k w
    → k < length ws
first_within P ws k w first =
    let len : length (writes_of ws) ≡ length ws = length-map ws (λ (v : Write _). (v.lba.0, v.bytes)) in
    omega (arith, slice_get_within (writes_of ws) k w first.at, len)

pub all_below : {b : _} (P : ℕ × List ℕ → Type 0) (ws : List (Write b)) (n : ℕ) → length ws ≤ n
    → ((j : ℕ) (w : ℕ × List ℕ) → j < n → slice_get (writes_of ws) j ≡ Some w → ¬ P w)
    → (j : ℕ) (w : ℕ × List ℕ) → j < length (writes_of ws) → slice_get (writes_of ws) j ≡ Some w → ¬ P w
all_below P ws n le before j w lt =
    let len : length (writes_of ws) ≡ length ws = length-map ws (λ (v : Write _). (v.lba.0, v.bytes)) in
    before j w (omega (arith, lt, le, len))

pub pair_at : {b : _} (ws : List (Write b)) (k : ℕ) (w : Write b) (v : ℕ × List ℕ) → w ≡ get_or ws k w
    → slice_get (writes_of ws) k ≡ Some v → w.lba.0 ≡ v.0
pair_at [] k w v is at = absurd cc
pair_at (x ∷ ws) zero w v is at =
    ap (λ (y : Write _). y.lba.0) is ∙ ap (λ (y : ℕ × List ℕ). y.0) (let here : (x.lba.0, x.bytes) ≡ v = some_same at in here)
  where
    some_same : {Y : Type 0} {y z : Y} → Some y ≡ Some z → y ≡ z
    some_same same = cc
pair_at (x ∷ ws) (suc k) w v is at = pair_at ws k w v is at

-- a phase as it was lent
pub lent_phase : {b : _} (ps : List (Vec (Write b) Global)) (i : ℕ) (p : Vec (Write b) Global) → i < length ps → p ≡ get_or ps i p
    → (ws : List (Write b)) → ws ≡ p.items → writes_of ws ≡ phase_at (phases_in ps) i
lent_phase ps i p lt is ws items = ap writes_of items ∙ sym (phase-at ps i p lt is)

pub index_within : {b : _} (ps : List (Vec (Write b) Global)) (i : ℕ) → i < length ps → i < length (phases_in ps)
index_within ps i lt = omega (arith, lt, length-phases ps)

pub seen_on : (phases : List Writes) (d : Sectors) (i : ℕ) (ws : Writes) (before after_it : Sectors) → i < length phases
    → ws ≡ phase_at phases i → before ≡ disk_after phases d i → after_it ≡ written ws before → after_it ≡ disk_after phases d (i + 1)
seen_on phases d i ws before after_it lt is here put =
    put ∙ ap (λ (w : Writes). written w before) is ∙ ap (written (phase_at phases i)) here
    ∙ sym (after-take_more phases i (phase_at phases i) d lt (get_or_default phases i [] (phase_at phases i) lt))

-- the number of a write that was found
pub first_number : (phases : List Writes) (P : List ℕ → ℕ × List ℕ → Type 0) (x y : List ℕ) (f : Found) → x ≡ y
    → FirstWriteIs (P x) (writes_in phases) (Some f) → FirstWrite phases (P y) f.number
first_number phases P x y f same (k, w, number, lba, first) =
    record { at = k; write = w; is = number; first = subst (λ (z : List ℕ). IsFirst (P z) (writes_in phases) k w) same first }

-- the sector of a write that was found
pub first_sector : (phases : List Writes) (P : ℕ × List ℕ → Type 0) (f : Found) → FirstWriteIs P (writes_in phases) (Some f)
    → FirstSector phases P f.lba.0
first_sector phases P f (k, w, number, lba, first) = record { at = k; write = w; is = lba; first = first }
