-- Rounding up: the least multiple that isn't below a number.
use Rattle.std.specs.Prelude.{◌≡◌, ◌≢◌, ◌<◌, ◌≤◌, ◌+◌, ◌-◌, ◌*◌, ◌/◌, ◌%◌, ℕ}
use Rattle.std.proofs.Common.{sym, ◌∙◌, subst, inl, inr, arith, eq-eqb, add-one}
use Rattle.std.proofs.lemmas.Bool.{cases_eq, cond-true, cond-false, ne_eqb}
use Rattle.std.proofs.Math.Nat.{div-add-mod, lt_of_mul-lt-mul_right, mul-le-mul_right, mul_comm, suc-mul}
use Rattle.pt_edit.specs.Space.{rounded_up, IsRoundedUp}

rounded_by_zero : (alignment k : ℕ) → alignment ≡ 0 → rounded_up alignment k ≡ k
rounded_by_zero alignment k zero = cond-true _ _ _ (eq-eqb alignment 0 zero)

rounded_multiple : (alignment k : ℕ) → alignment ≢ 0 → k % alignment ≡ 0 → rounded_up alignment k ≡ k
rounded_multiple alignment k some whole = cond-false _ _ _ (ne_eqb alignment 0 some) ∙ cond-true _ _ _ (eq-eqb (k % alignment) 0 whole)

rounded_between : (alignment k : ℕ) → alignment ≢ 0 → (k % alignment ≡ 0 → ⊥) → rounded_up alignment k ≡ k + (alignment - k % alignment)
rounded_between alignment k some over = cond-false _ _ _ (ne_eqb alignment 0 some) ∙ cond-false _ _ _ (ne_eqb (k % alignment) 0 over)

pub rounded_above : (alignment k : ℕ) → k ≤ rounded_up alignment k
rounded_above alignment k = elim (cases_eq alignment 0) as (λ _. k ≤ rounded_up alignment k) [
  | inl zero ↦ omega (arith, rounded_by_zero alignment k zero)
  | inr some ↦ elim (cases_eq (k % alignment) 0) as (λ _. k ≤ rounded_up alignment k) [
    | inl whole ↦ omega (arith, rounded_multiple alignment k some whole)
    | inr over ↦ omega (arith, rounded_between alignment k some over)
  ]
]

-- a multiple past a quotient is a whole step past it
next_multiple : (alignment p q : ℕ) → p * alignment < q * alignment → (p + 1) * alignment ≤ q * alignment
next_multiple alignment p q lt =
    let below : p < q = lt_of_mul-lt-mul_right alignment lt in
    let step : p + 1 ≤ q = omega arith in
    mul-le-mul_right alignment step

least_whole : (alignment k : ℕ) → alignment ≢ 0 → k % alignment ≡ 0 → IsRoundedUp alignment k k
least_whole alignment k some whole = record {
  multiple = (k / alignment, omega (arith, div-add-mod k alignment, mul_comm alignment (k / alignment)));
  above = omega arith;
  least = λ q le. le;
}

least_over : (alignment k : ℕ) → alignment ≢ 0 → (k % alignment ≡ 0 → ⊥) → IsRoundedUp alignment k (k + (alignment - k % alignment))
least_over alignment k some over =
    let parts : k / alignment * alignment + k % alignment ≡ k =
    omega (arith, div-add-mod k alignment, mul_comm alignment (k / alignment)) in
    let small : k % alignment < alignment = omega arith in
    let next : (k / alignment + 1) * alignment ≡ k / alignment * alignment + alignment = rw (add-one, suc-mul) in
    record {
      multiple = (k / alignment + 1, omega arith);
      above = omega arith;
      least = λ q le. (let past : k / alignment * alignment < q * alignment = omega arith in
          let up = next_multiple alignment (k / alignment) q past in
          omega arith);
    }

pub rounded_up_is_least_lem : (alignment k : ℕ) → alignment ≢ 0 → IsRoundedUp alignment k (rounded_up alignment k)
rounded_up_is_least_lem alignment k some = elim (cases_eq (k % alignment) 0) as (λ _. IsRoundedUp alignment k (rounded_up alignment k)) [
  | inl whole ↦ subst (λ (m : ℕ). IsRoundedUp alignment k m) (sym (rounded_multiple alignment k some whole))
      (least_whole alignment k some whole)
  | inr over ↦ subst (λ (m : ℕ). IsRoundedUp alignment k m) (sym (rounded_between alignment k some over)) (least_over alignment k some over)
]
