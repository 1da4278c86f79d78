-- Lemmas on specs/Keeps.antt: as many things as there are different sectors, one of each among them: no two are of one sector.
use Rattle.std.specs.Prelude.{◌≡◌, ◌≢◌, ◌⊎◌, ◌<◌, ◌≤◌, ◌+◌, ◌∷◌, [], ℕ, zero, suc, List, Contains, length, get_or}
use Rattle.std.proofs.Common.{refl, sym, ap, subst, ◌∙◌, arith, inl, inr}
use Rattle.std.proofs.lemmas.Bool.{cases_lt}
use Rattle.std.proofs.lemmas.List.{get_or_default}
use Rattle.pt_members.proofs.Grouped.{contains_head, contains_tail}
use Rattle.pt_cases.specs.Keeps.{AllDiffer, IsNth, Covers}

-- the list without thing k
without : {X : Type 0} → ℕ → List X → List X
without k [] = []
without zero (t ∷ ts) = ts
without (suc k) (t ∷ ts) = t ∷ without k ts

one_less : {X : Type 0} (k : ℕ) (ts : List X) → k < length ts → length (without k ts) + 1 ≡ length ts
unfolding without
one_less k [] lt = absurd (omega (arith, lt))
one_less zero (t ∷ ts) lt = omega arith
one_less (suc k) (t ∷ ts) lt = (let less = one_less k ts (omega (arith, lt)) in omega (arith, less))

still_in : {X : Type 0} (k i : ℕ) (ts : List X) (t : X) → IsNth ts i t → i ≢ k → Contains (without k ts) t
unfolding without
still_in k i [] t at other = absurd (omega (arith, at.0))
still_in zero zero (u ∷ us) t at other = absurd (other refl)
still_in zero (suc i) (u ∷ us) t at other = (i, omega (arith, at.0), at.1)
still_in (suc k) zero (u ∷ us) t at other = (0, omega arith, at.1)
still_in (suc k) (suc i) (u ∷ us) t at other =
    contains_tail u (without k us) t (still_in k i us t (omega (arith, at.0), at.1) (λ e. other (ap suc e)))

same_thing : {X : Type 0} (k i : ℕ) (ts : List X) (t u : X) → IsNth ts k t → IsNth ts i u → i ≡ k → u ≡ t
same_thing k i ts t u at also same =
    let there : get_or ts i t ≡ t = ap (λ (n : ℕ). get_or ts n t) same ∙ at.1 in
    sym also.1 ∙ get_or_default ts i u t also.0 ∙ there

equal_or_not : (i k : ℕ) → (i ≡ k) ⊎ (i ≢ k)
equal_or_not i k = elim (cases_lt i k) as (λ _. (i ≡ k) ⊎ (i ≢ k)) [
  | inl below ↦ inr (λ e. omega (arith, e, below))
  | inr ge ↦ elim (cases_lt k i) as (λ _. (i ≡ k) ⊎ (i ≢ k)) [
    | inl above ↦ inr (λ e. omega (arith, e, above))
    | inr le ↦ inl (omega arith)
  ]
]

-- without a thing whose sector isn't wanted, or is another thing's too, the sectors have theirs
covers_less : {X : Type 0} (f : X → ℕ) (ts : List X) (ys : List ℕ) (k : ℕ) (t : X) → Covers f ts ys → IsNth ts k t
    → (Contains ys (f t) → (i : ℕ) × (u : X) × IsNth ts i u × (i ≢ k) × (f u ≡ f t)) → Covers f (without k ts) ys
covers_less f ts ys k t covers at again s has = (
    let c = covers s has in
    elim (equal_or_not c.1.0 k) as (λ _. (u : _) × Contains (without k ts) u × (f u ≡ s)) [
      | inr other ↦ (c.0, still_in k c.1.0 ts c.0 (c.1.1, c.1.2) other, c.2)
      | inl here ↦ (
          let same : f t ≡ s = ap f (sym (same_thing k c.1.0 ts t c.0 at (c.1.1, c.1.2) here)) ∙ c.2 in
          let two = again (subst (λ (n : ℕ). Contains ys n) (sym same) has) in
          (two.1, still_in k two.0 ts two.1 two.2 two.3, two.4 ∙ same)
          )
    ]
    )

-- so many things there are at least
enough : {X : Type 0} (f : X → ℕ) (ys : List ℕ) (ts : List X) → AllDiffer ys → Covers f ts ys → length ys ≤ length ts
enough f [] ts differ covers = omega arith
enough f (y ∷ ys) ts differ covers =
    let c = covers y (contains_head y ys) in
    let fewer =
    covers_less f ts ys c.1.0 c.0 (λ s has. covers s (contains_tail y ys s has)) (c.1.1, c.1.2)
    (λ has. absurd (differ.0 (subst (λ (n : ℕ). Contains ys n) c.2 has))) in
    let more = enough f ys (without c.1.0 ts) differ.1 fewer in
    omega (arith, more, one_less c.1.0 ts c.1.1)

pub covering_differs_lem : {X : Type 0} (f : X → ℕ) (ys : List ℕ) (ts : List X) → AllDiffer ys → Covers f ts ys → length ts ≡ length ys
    → (i j : ℕ) (t u : X) → i < j → IsNth ts i t → IsNth ts j u → f t ≢ f u
covering_differs_lem f ys ts differ covers count i j t u order at also same =
    let fewer = covers_less f ts ys j u covers also (λ has. (i, t, at, (λ e. omega (arith, e, order)), same)) in
    let least = enough f ys (without j ts) differ fewer in
    omega (arith, least, count, one_less j ts also.0)
