-- What the steps have in each row.
use Rattle.std.proofs.Common.{◌≡◌, ℕ, zero, suc, ◌+◌, ◌*◌, ◌^◌, ◌<◌, [], get_or, refl, ap, ◌∙◌, arith}
use Rattle.std.specs.Prelude.{map}
use Rattle.std.specs.List.{range_with_len}
use Rattle.std.proofs.Math.Nat.{pow-suc}
use Rattle.std.proofs.lemmas.List.FromFn.{get_or-map-range_with_len}
use Rattle.pt_sum.specs.Sums.{shifted}
use Rattle.pt_sum.specs.inner.Sums.{moved}
use Rattle.pt_resum.specs.declared.steps.TheConstants.{STEPS}
use Rattle.pt_resum.proofs.Columns.{image, Moves, twice}

first_row : get_or STEPS 0 [] ≡ map (λ i. moved 1024 (2 ^ i)) (range_with_len 0 32)
unfolding moved shifted
first_row = refl

-- each row is the one before, moved by itself
next_row : (j : ℕ) → suc j < 7
    → get_or STEPS (suc j) [] ≡ map (λ i. image (get_or STEPS j []) 32 (get_or (get_or STEPS j []) i 0)) (range_with_len 0 32)
unfolding image
next_row zero within = refl
next_row (suc zero) within = refl
next_row (suc (suc zero)) within = refl
next_row (suc (suc (suc zero))) within = refl
next_row (suc (suc (suc (suc zero)))) within = refl
next_row (suc (suc (suc (suc (suc zero))))) within = refl
next_row (suc (suc (suc (suc (suc (suc j)))))) within = absurd (omega arith)

pub row_moves : (j : ℕ) → j < 7 → Moves (1024 * 2 ^ j) (get_or STEPS j [])
row_moves zero within i below =
    ap (λ row. get_or row i 0) first_row ∙ get_or-map-range_with_len (λ k. moved 1024 (2 ^ k)) 0 32 i i 0 below (omega arith)
row_moves (suc j) within i below =
    let n : ℕ = 1024 * 2 ^ j in
    let double : 1024 * 2 ^ suc j ≡ n + n = omega (arith, pow-suc 2 j) in
    let row = get_or STEPS j [] in
    rw double (ap (λ r. get_or r i 0) (next_row j within)
    ∙ get_or-map-range_with_len (λ k. image row 32 (get_or row k 0)) 0 32 i i 0 below (omega arith)
    ∙ twice n row i (row_moves j (omega arith)) below)
