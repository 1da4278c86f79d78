-- A register moves bit by bit: what a row of columns says of each bit, it says of all.
use Rattle.std.proofs.Common.{◌≡◌, ℕ, zero, suc, ◌+◌, ◌*◌, ◌/◌, ◌%◌, ◌^◌, ◌<◌, ◌≤◌, List, get_or, refl, sym, ap, ◌∙◌}
use Rattle.std.proofs.Common.{arith, inl, inr, ◌⊎◌}
use Rattle.std.specs.Prelude.{bit_xor, bit_and}
use Rattle.std.specs.Int.Bits.{xor_zero_r}
use Rattle.std.proofs.lemmas.Nat.{xor_comm, xor_of_32, pow_pos, pow_below, mod_below}
use Rattle.std.proofs.lemmas.Nat.Bits.{shr_and_one}
use lib.Bits.{xor_shifted}
use lib.Pow.{mod-pow-add}
use Rattle.pt_sum.specs.Sums.{shifted}
use Rattle.pt_sum.specs.inner.Sums.{moved}
use Rattle.pt_sum.proofs.Linear.{moved-xor, moved-add, shifted-even, shifted-odd}

-- the low bits and the next one
next_bit : (d m b : ℕ) → d / 2 ^ m % 2 ≡ b → d % 2 ^ (m + 1) ≡ b * 2 ^ m + d % 2 ^ m
next_bit d m b e =
    let more : 1 + m ≡ m + 1 = omega arith in
    let one : d / 2 ^ m % 2 ^ 1 ≡ b = e in
    ap (λ (k : ℕ). d % 2 ^ k) (sym more) ∙ mod-pow-add d 1 m ∙ rw one refl

low_more : (d m b : ℕ) → d / 2 ^ m % 2 ≡ b → d % 2 ^ (m + 1) ≡ bit_xor (d % 2 ^ m) (b * 2 ^ m)
low_more d m b e =
    next_bit d m b e
    ∙ sym (xor_comm (d % 2 ^ m) (b * 2 ^ m) ∙ xor_shifted b m (d % 2 ^ m) (mod_below d (2 ^ m) (pow_pos m)))

parity : (a : ℕ) → (a % 2 ≡ 0) ⊎ (a % 2 ≡ 1)
parity a = even_or (a % 2) (omega arith) where
  even_or : (n : ℕ) → n < 2 → (n ≡ 0) ⊎ (n ≡ 1)
  even_or zero h = inl refl
  even_or (suc zero) h = inr refl
  even_or (suc (suc n)) h = absurd (omega arith)

-- the next bit adds its column, which is counted once or not at all
pub one_more : (n d m c : ℕ) → c ≡ moved n (2 ^ m)
    → bit_xor (moved n (d % 2 ^ m)) (c * (d / 2 ^ m % 2)) ≡ moved n (d % 2 ^ (m + 1))
one_more n d m c e = elim (parity (d / 2 ^ m)) [
  | inl clear ↦ let none : c * (d / 2 ^ m % 2) ≡ 0 = rw clear (omega arith) in
      let same : 0 * 2 ^ m ≡ 0 = omega arith in
      rw none (xor_zero_r (moved n (d % 2 ^ m))
      ∙ sym (ap (moved n) (low_more d m 0 clear ∙ ap (bit_xor (d % 2 ^ m)) same ∙ xor_zero_r (d % 2 ^ m))))
  | inr set ↦ let once : c * (d / 2 ^ m % 2) ≡ moved n (2 ^ m) = rw set (omega (arith, e)) in
      let one : 1 * 2 ^ m ≡ 2 ^ m = omega arith in
      rw once (sym (ap (moved n) (low_more d m 1 set ∙ ap (bit_xor (d % 2 ^ m)) one) ∙ moved-xor n (d % 2 ^ m) (2 ^ m)))
]

-- the sum without carry of the columns below m where the register has a bit
unfoldable pub image : List ℕ → ℕ → ℕ → ℕ
image row zero d = 0
image row (suc m) d = bit_xor (image row m d) (get_or row m 0 * (d / 2 ^ m % 2))

-- a row whose columns are the bits after n moves
abbrev pub Moves : ℕ → List ℕ → Type 0
Moves n row = (i : ℕ) → i < 32 → get_or row i 0 ≡ moved n (2 ^ i)

moved_zero : (n : ℕ) → moved n 0 ≡ 0
unfolding moved shifted
moved_zero zero = refl
moved_zero (suc n) = moved_zero n

-- no bit, no register
pub moved_none : (n d : ℕ) → 0 ≡ moved n (d % 2 ^ 0)
moved_none n d = let none : d % 2 ^ 0 ≡ 0 = omega arith in rw none (sym (moved_zero n))

shifted_below : (r : ℕ) → r < 2 ^ 32 → shifted r < 2 ^ 32
shifted_below r small = elim (parity r) [
  | inl e ↦ rw (shifted-even r e) (omega arith)
  | inr e ↦ rw (shifted-odd r e) (xor_of_32 (r / 2) 0xEDB88320 (omega arith) (omega arith))
]

-- a register stays one
moved_below : (n r : ℕ) → r < 2 ^ 32 → moved n r < 2 ^ 32
unfolding moved
moved_below zero r small = small
moved_below (suc n) r small = moved_below n (shifted r) (shifted_below r small)

image_is : (n : ℕ) (row : List ℕ) (m d : ℕ) → Moves n row → m ≤ 32 → image row m d ≡ moved n (d % 2 ^ m)
unfolding image
image_is n row zero d moves within = moved_none n d
image_is n row (suc m) d moves within =
    let more : m + 1 ≡ suc m = omega arith in
    ap (λ (x : ℕ). bit_xor x (get_or row m 0 * (d / 2 ^ m % 2))) (image_is n row m d moves (omega arith))
    ∙ one_more n d m (get_or row m 0) (moves m (omega arith))
    ∙ ap (λ (k : ℕ). moved n (d % 2 ^ k)) more

pub all_bits : (n d : ℕ) → d < 2 ^ 32 → moved n (d % 2 ^ 32) ≡ moved n d
all_bits n d small = let whole : d % 2 ^ 32 ≡ d = omega arith in ap (moved n) whole

-- each column moved once more, by its row
pub twice : (n : ℕ) (row : List ℕ) (i : ℕ) → Moves n row → i < 32 → image row 32 (get_or row i 0) ≡ moved (n + n) (2 ^ i)
twice n row i moves within =
    let column : get_or row i 0 ≡ moved n (2 ^ i) = moves i within in
    let small : moved n (2 ^ i) < 2 ^ 32 = moved_below n (2 ^ i) (pow_below i 32 within) in
    rw column (image_is n row 32 (moved n (2 ^ i)) moves (omega arith) ∙ all_bits n (moved n (2 ^ i)) small ∙ sym (moved-add n n (2 ^ i)))

-- the test of a bit
pub is_set : (d m : ℕ) → bit_and (d / 2 ^ m) 1 ≡ 1 → d / 2 ^ m % 2 ≡ 1
is_set d m one = sym (shr_and_one d m) ∙ one

pub is_clear : (d m : ℕ) → (bit_and (d / 2 ^ m) 1 ≡ 1 → ⊥) → d / 2 ^ m % 2 ≡ 0
is_clear d m other = elim (parity (d / 2 ^ m)) [ inl e ↦ e | inr e ↦ absurd (other (shr_and_one d m ∙ e)) ]

-- the moves that the low bits of a number say, and those of the next one
pub step_taken : (r d m : ℕ) → d / 2 ^ m % 2 ≡ 1
    → moved (1024 * 2 ^ m) (moved (1024 * (d % 2 ^ m)) r) ≡ moved (1024 * (d % 2 ^ (m + 1))) r
step_taken r d m e =
    let more : 1024 * (d % 2 ^ (m + 1)) ≡ 1024 * (d % 2 ^ m) + 1024 * 2 ^ m = omega (arith, next_bit d m 1 e) in
    sym (ap (λ (k : ℕ). moved k r) more ∙ moved-add (1024 * (d % 2 ^ m)) (1024 * 2 ^ m) r)

pub step_left : (r d m : ℕ) → d / 2 ^ m % 2 ≡ 0 → moved (1024 * (d % 2 ^ m)) r ≡ moved (1024 * (d % 2 ^ (m + 1))) r
step_left r d m e =
    let same : d % 2 ^ m ≡ d % 2 ^ (m + 1) = omega (arith, next_bit d m 0 e) in ap (λ (k : ℕ). moved (1024 * k) r) same
