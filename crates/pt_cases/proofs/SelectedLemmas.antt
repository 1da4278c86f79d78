-- Lemmas on targets in the order of their sectors, and on the writes of those that pass a test.
use Rattle.std.proofs.Common.{◌≡◌, ◌∙◌, ◌⊎◌, inl, inr, ⊎_elim, ℕ, zero, suc, ◌<◌, ◌≤◌, List, [], ◌∷◌, length, refl, sym, ap, subst}
use Rattle.std.proofs.Common.{arith, Bool, true, false, cond, filter, None}
use Rattle.std.specs.Prelude.{Contains}
use Rattle.std.proofs.lemmas.List.Elements.{All-contains, All-contains_itself, All-filter, filter_passes}
use Rattle.std.proofs.lemmas.List.Sums.{length-filter, count_by-le-length}
use Rattle.pt_sector.specs.Sectors.{Puts, IsAscending, sector_at}
use Rattle.pt_members.proofs.Grouped.{contains_head, contains_tail, contains_cases, contains_none}
use Rattle.pt_cases.proofs.Select.{Rises, rises_ascends}
use Rattle.pt_cases.specs.Targets.{targeted}
use Rattle.pt_cases.specs.declared.targets.target.Target.{Target}
use Rattle.pt_cases.specs.declared.targets.writes.Choice.{Choice}
use Rattle.pt_cases.specs.inner.Targets.{is_chosen, chosen_writes, only}
use Rattle.pt_cases.proofs.Chosen.{Means, means}

-- each sector is below those after it
abbrev pub TargetsClimb : {b : ℕ} → List (Target b) → Type 0
TargetsClimb [] = Unit {0}
TargetsClimb (t ∷ ts) = ((u : Target _) → Contains ts u → t.at.0 < u.at.0) × TargetsClimb ts

pub count_targeted : {b : ℕ} (ts : List (Target b)) → length (targeted ts) ≡ length ts
count_targeted [] = refl
count_targeted (t ∷ ts) = ap suc (count_targeted ts)

contains_sector : {b : ℕ} (ts : List (Target b)) (u : Target b) → Contains ts u
    → (i : ℕ) × (i < length ts) × (sector_at (targeted ts) i ≡ u.at.0)
contains_sector [] u (k, lt, at) = absurd (omega (arith, lt))
contains_sector (t ∷ ts) u (zero, lt, at) = (0, omega arith, ap (λ (x : Target _). x.at.0) at)
contains_sector (t ∷ ts) u (suc k, lt, at) =
    let later = contains_sector ts u (k, omega (arith, lt), at) in (suc later.0, omega (arith, later.1), later.2)

pub climbs : {b : ℕ} (ts : List (Target b)) → IsAscending (targeted ts) → TargetsClimb ts
climbs [] up = tt
climbs (t ∷ ts) up = (
  λ u has.
      let at = contains_sector ts u has in
      let less = up 0 (suc at.0) (omega arith) (omega (arith, at.1, count_targeted ts)) in
      omega (arith, at.2, less),
  climbs ts (λ i j less lt. up (suc i) (suc j) (omega (arith, less)) (omega (arith, lt))),
)

-- one target a sector
pub climbs_one : {b : ℕ} (ts : List (Target b)) (t u : Target b) → TargetsClimb ts → Contains ts t → Contains ts u → t.at.0 ≡ u.at.0 → t ≡ u
climbs_one [] t u climb (k, lt, at) has same = absurd (omega (arith, lt))
climbs_one (x ∷ ts) t u climb (zero, lt, at) (zero, lt_u, at_u) same = sym at ∙ at_u
climbs_one (x ∷ ts) t u climb (zero, lt, at) (suc j, lt_u, at_u) same =
    let less = climb.0 u (j, omega (arith, lt_u), at_u) in
    let here : x.at.0 ≡ t.at.0 = ap (λ (y : Target _). y.at.0) at in
    absurd (omega (arith, less, here, same))
climbs_one (x ∷ ts) t u climb (suc k, lt, at) (zero, lt_u, at_u) same =
    let less = climb.0 t (k, omega (arith, lt), at) in
    let here : x.at.0 ≡ u.at.0 = ap (λ (y : Target _). y.at.0) at_u in
    absurd (omega (arith, less, here, same))
climbs_one (x ∷ ts) t u climb (suc k, lt, at) (suc j, lt_u, at_u) same =
    climbs_one ts t u climb.1 (k, omega (arith, lt), at) (j, omega (arith, lt_u), at_u) same

-- P holds of none of them, or of two
abbrev pub NotAlone : {b : ℕ} → (Target b → Type 0) → List (Target b) → Type 0
NotAlone P ts =
    ((t : Target _) → Contains ts t → ¬ P t)
    ⊎ ((t u : Target _) × Contains ts t × Contains ts u × P t × P u × (t.at.0 < u.at.0))

-- each write is of a target, and each target is written
targeted_from : {b : ℕ} (ts : List (Target b)) (s : ℕ) (v : List ℕ) → Puts (targeted ts) s v
    → (t : Target b) × Contains ts t × (t.at.0 ≡ s) × (t.bytes ≡ v)
targeted_from [] s v puts = absurd puts
targeted_from (t ∷ ts) s v (inl here) = (t, contains_head t ts, here.0, here.1)
targeted_from (t ∷ ts) s v (inr there) =
    let it = targeted_from ts s v there in (it.0, contains_tail t ts it.0 it.1, it.2, it.3)

targeted_all : {b : ℕ} (ts : List (Target b)) (t : Target b) → Contains ts t → Puts (targeted ts) t.at.0 t.bytes
targeted_all [] t has = absurd (contains_none t has)
targeted_all (x ∷ ts) t has = ⊎_elim
    (λ here. inl (ap (λ (y : Target _). y.at.0) here, ap (λ (y : Target _). y.bytes) here))
    (λ there. inr (targeted_all ts t there))
    (contains_cases x ts t has)

targeted_rises : {b : ℕ} (ts : List (Target b)) → TargetsClimb ts → Rises (targeted ts)
targeted_rises [] climb = tt
targeted_rises (t ∷ ts) climb = (
  λ s v puts.
      let it = targeted_from ts s v puts in
      let less = climb.0 it.0 it.1 in
      omega (arith, less, it.2),
  targeted_rises ts climb.1,
)

-- what passes a test is there, and passes it
passed : {X : Type 0} (test : X → Bool) (xs : List X) (x : X) → Contains (filter test xs) x → Contains xs x × (test x ≡ true)
passed test xs x has = (
  All-contains (Contains xs) (filter test xs) x (All-filter test (Contains xs) xs (All-contains_itself xs)) has,
  All-contains (λ (y : _). test y ≡ true) (filter test xs) x (filter_passes test xs) has,
)

passes : {X : Type 0} (test : X → Bool) (xs : List X) (x : X) → Contains xs x → test x ≡ true → Contains (filter test xs) x
passes test [] x has so = has
passes test (y ∷ xs) x has so = by_test (λ there. passes test xs x there so) (test y) refl (contains_cases y xs x has) where
  by_test : (Contains xs x → Contains (filter test xs) x) → (is : Bool) → test y ≡ is → (y ≡ x) ⊎ Contains xs x
      → Contains (cond is (y ∷ filter test xs) (filter test xs)) x
  by_test later true is (inl here) = subst (Contains (y ∷ filter test xs)) here (contains_head y (filter test xs))
  by_test later true is (inr there) = contains_tail y (filter test xs) x (later there)
  by_test later false is (inl here) = (let both : false ≡ true = sym is ∙ ap test here ∙ so in absurd cc)
  by_test later false is (inr there) = later there

passed_climb : {b : ℕ} (test : Target b → Bool) (ts : List (Target b)) → TargetsClimb ts → TargetsClimb (filter test ts)
passed_climb test [] climb = tt
passed_climb test (t ∷ ts) climb =
    elim (test t) as (λ (is : Bool). TargetsClimb (cond is (t ∷ filter test ts) (filter test ts))) [
      | true ↦ (λ u has. climb.0 u (passed test ts u has).0, passed_climb test ts climb.1)
      | false ↦ passed_climb test ts climb.1
    ]

module _ {b : ℕ} (choice : Choice) (ts : List (Target b)) where
  -- each write is of one of them
  pub selected_from : (s : ℕ) (v : List ℕ) → Puts (chosen_writes choice ts) s v
      → (t : Target b) × Contains ts t × Means choice t × (t.at.0 ≡ s) × (t.bytes ≡ v)
  selected_from s v puts =
      let it = targeted_from (filter (is_chosen choice) ts) s v puts in
      let has = passed (is_chosen choice) ts it.0 it.1 in
      (it.0, has.0, (means choice it.0).0 has.1, it.2, it.3)

  -- and each of them is written
  pub selected_all : (t : Target b) → Contains ts t → Means choice t → Puts (chosen_writes choice ts) t.at.0 t.bytes
  selected_all t has it =
      targeted_all (filter (is_chosen choice) ts) t (passes (is_chosen choice) ts t has ((means choice t).1 it))

  pub selected_few : length (chosen_writes choice ts) ≤ length ts
  selected_few =
      omega (
        arith,
        count_targeted (filter (is_chosen choice) ts),
        length-filter (is_chosen choice) ts,
        count_by-le-length (is_chosen choice) ts,
      )

  pub selected_ascend : IsAscending (targeted ts) → IsAscending (chosen_writes choice ts)
  selected_ascend up =
      rises_ascends (chosen_writes choice ts)
      (targeted_rises (filter (is_chosen choice) ts) (passed_climb (is_chosen choice) ts (climbs ts up)))

  -- no other is written
  pub selected_not : IsAscending (targeted ts) → (t : Target b) → Contains ts t → ¬ Means choice t
      → (x : List ℕ) → ¬ Puts (chosen_writes choice ts) t.at.0 x
  selected_not up t has other x puts =
      let it = selected_from t.at.0 x puts in
      let same : it.0 ≡ t = climbs_one ts it.0 t (climbs ts up) it.1 has it.3 in
      other (subst (Means choice) same it.2)

  none_or_two : IsAscending (targeted ts) → (chosen : List (Target b)) → filter (is_chosen choice) ts ≡ chosen
      → only (targeted chosen) ≡ None → NotAlone (Means choice) ts
  none_or_two up [] same none = inl (λ t has it.
      contains_none t (subst (λ (l : List (Target b)). Contains l t) same
      (passes (is_chosen choice) ts t has ((means choice t).1 it))))
  none_or_two up (t ∷ []) same none = absurd cc
  none_or_two up (t ∷ u ∷ rest) same none =
      let of : (x : Target b) → Contains (t ∷ u ∷ rest) x → Contains ts x × (is_chosen choice x ≡ true) =
      λ x has. passed (is_chosen choice) ts x (subst (λ (l : List (Target b)). Contains l x) (sym same) has) in
      let one = of t (contains_head t (u ∷ rest)) in
      let other = of u (contains_tail t (u ∷ rest) u (contains_head u rest)) in
      let climb = subst TargetsClimb same (passed_climb (is_chosen choice) ts (climbs ts up)) in
      inr (t, u, one.0, other.0, (means choice t).0 one.1, (means choice u).0 other.1, climb.0 u (contains_head u rest))

  -- where there isn't one write, none of them is chosen, or two are
  pub selected_not_one : IsAscending (targeted ts) → only (chosen_writes choice ts) ≡ None → NotAlone (Means choice) ts
  selected_not_one up none = none_or_two up (filter (is_chosen choice) ts) refl none
