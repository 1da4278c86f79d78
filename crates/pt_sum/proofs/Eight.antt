-- Four bytes as a word, and eight bytes by eight tables.
use Rattle.std.proofs.Common.{◌≡◌, ℕ, zero, suc, ◌+◌, ◌*◌, ◌/◌, ◌%◌, ◌^◌, ◌<◌, List, [], ◌∷◌, ◌++◌, length, get_or, refl, sym, ap, ◌∙◌}
use Rattle.std.proofs.Common.{arith}
use Rattle.std.specs.Prelude.{bit_xor, fold}
use Rattle.std.specs.List.{flat_map}
use Rattle.std.proofs.lemmas.List.{append-nil}
use Rattle.std.proofs.lemmas.Nat.{shr-shr, pow-add}
use Rattle.std.proofs.Math.Nat.{pow-suc}
use Rattle.std.specs.Int.Bits.{xor_assoc}
use Rattle.pt_sum.specs.Sums.{bits, after_bit, after_bytes}
use Rattle.pt_sum.specs.inner.Sums.{moved}
use Rattle.pt_sum.proofs.Terms.{after_bytes-append}
use Rattle.pt_sum.proofs.Linear.{moved_split, moved-add, moved-xor, at_once}

-- the low byte moves apart from the rest
moved_low : (n y : ℕ) → moved (8 + n) y ≡ bit_xor (moved (8 + n) (y % 256)) (moved n (y / 256))
moved_low n y =
    moved-add 8 n y
    ∙ ap (moved n) (moved_split 8 y)
    ∙ moved-xor n (moved 8 (y % 256)) (y / 256)
    ∙ ap (λ (x : ℕ). bit_xor x (moved n (y / 256))) (sym (moved-add 8 n (y % 256)))

pub moved_four : (k y : ℕ) → y < 2 ^ 32
    → moved (8 * k + 32) y ≡ bit_xor (bit_xor (bit_xor (moved (8 * (k + 3) + 8) (y % 256))
    (moved (8 * (k + 2) + 8) (y / 256 % 256))) (moved (8 * (k + 1) + 8) (y / 65536 % 256))) (moved (8 * k + 8) (y / 16777216))
moved_four k y small =
    let n0 : 8 * k + 32 ≡ 8 + (8 * k + 24) = omega arith in
    let n1 : 8 * k + 24 ≡ 8 + (8 * k + 16) = omega arith in
    let n2 : 8 * k + 16 ≡ 8 + (8 * k + 8) = omega arith in
    let m0 : 8 + (8 * k + 24) ≡ 8 * (k + 3) + 8 = omega arith in
    let m1 : 8 + (8 * k + 16) ≡ 8 * (k + 2) + 8 = omega arith in
    let m2 : 8 + (8 * k + 8) ≡ 8 * (k + 1) + 8 = omega arith in
    let d2 : y / 256 / 256 ≡ y / 65536 = omega arith in
    let d3 : y / 65536 / 256 ≡ y / 16777216 = omega arith in
    let a = ap (λ (n : ℕ). moved n y) n0 ∙ moved_low (8 * k + 24) y in
    let b = ap (λ (n : ℕ). moved n (y / 256)) n1 ∙ moved_low (8 * k + 16) (y / 256) in
    let c = ap (λ (n : ℕ). moved n (y / 65536)) n2 ∙ moved_low (8 * k + 8) (y / 65536) in
    let c' : moved (8 * k + 16) (y / 65536) ≡ bit_xor (moved (8 * (k + 1) + 8) (y / 65536 % 256))
    (moved (8 * k + 8) (y / 16777216)) = rw (← m2, ← d3) c in
    let b' : moved (8 * k + 24) (y / 256) ≡ bit_xor (moved (8 * (k + 2) + 8) (y / 256 % 256)) (moved (8 * k + 16) (y / 65536)) =
    rw (← m1, ← d2) b in
    let a' : moved (8 * k + 32) y ≡ bit_xor (moved (8 * (k + 3) + 8) (y % 256)) (moved (8 * k + 24) (y / 256)) = rw (← m0) a in
    a'
    ∙ ap (bit_xor (moved (8 * (k + 3) + 8) (y % 256))) (b' ∙ ap (bit_xor (moved (8 * (k + 2) + 8) (y / 256 % 256))) c')
    ∙ sym (xor_assoc (moved (8 * (k + 3) + 8) (y % 256)) (moved (8 * (k + 2) + 8) (y / 256 % 256))
    (bit_xor (moved (8 * (k + 1) + 8) (y / 65536 % 256)) (moved (8 * k + 8) (y / 16777216))))
    ∙ sym (xor_assoc (bit_xor (moved (8 * (k + 3) + 8) (y % 256)) (moved (8 * (k + 2) + 8) (y / 256 % 256)))
    (moved (8 * (k + 1) + 8) (y / 65536 % 256)) (moved (8 * k + 8) (y / 16777216)))

-- the low bits of a number do not see the rest
bits-low : (m b r : ℕ) → bits m (r * 2 ^ m + b) ≡ bits m b
unfolding bits
bits-low zero b r = refl
bits-low (suc m) b r =
    let p : r * 2 ^ suc m ≡ r * 2 ^ m * 2 = rw (pow-suc 2 m) (omega arith) in
    let low : (r * 2 ^ suc m + b) % 2 ≡ b % 2 = omega arith in
    let high : (r * 2 ^ suc m + b) / 2 ≡ r * 2 ^ m + b / 2 = omega arith in
    rw (low, high) (ap (λ (xs : List ℕ). b % 2 ∷ xs) (bits-low m (b / 2) r))

bits-add : (m n x : ℕ) → bits (m + n) x ≡ bits m x ++ bits n (x / 2 ^ m)
unfolding bits
bits-add zero n x = let e : 0 + n ≡ n = omega arith in let d : x / 2 ^ 0 ≡ x = omega arith in rw (e, d) refl
bits-add (suc m) n x =
    let e : suc m + n ≡ suc (m + n) = omega arith in
    let p : 2 ^ suc m ≡ 2 ^ m * 2 = pow-suc 2 m in
    let d : x / 2 ^ suc m ≡ x / 2 / 2 ^ m = rw p (sym (shr-shr x 1 m ∙ ap (λ (k : ℕ). x / k) (pow-add 2 1 m ∙ omega arith))) in
    rw (e, d) (ap (λ (xs : List ℕ). x % 2 ∷ xs) (bits-add m n (x / 2)))

bits_front : (n b r x : ℕ) → b < 256 → x ≡ b + 256 * r → bits (8 + n) x ≡ bits 8 b ++ bits n r
bits_front n b r x small e =
    let whole : x ≡ r * 2 ^ 8 + b = omega arith in
    let rest : x / 2 ^ 8 ≡ r = omega arith in
    bits-add 8 n x ∙ rw rest (ap (λ (xs : List ℕ). xs ++ bits n r) (ap (bits 8) whole ∙ bits-low 8 b r))

pub bits_word : (a b c d x : ℕ) → a < 256 → b < 256 → c < 256 → x ≡ a + 256 * (b + 256 * (c + 256 * d))
    → bits 32 x ≡ flat_map (bits 8) (a ∷ b ∷ c ∷ d ∷ [])
bits_word a b c d x ha hb hc e =
    bits_front 24 a (b + 256 * (c + 256 * d)) x ha e
    ∙ ap (λ (xs : List ℕ). bits 8 a ++ xs) (bits_front 16 b (c + 256 * d) (b + 256 * (c + 256 * d)) hb refl
    ∙ ap (λ (xs : List ℕ). bits 8 b ++ xs) (bits_front 8 c d (c + 256 * d) hc refl
    ∙ ap (λ (xs : List ℕ). bits 8 c ++ xs) (sym (append-nil (bits 8 d)))))

-- four bytes at once
pub word_at_once : (s a b c d x : ℕ) → a < 256 → b < 256 → c < 256 → d < 256 → x ≡ a + 256 * (b + 256 * (c + 256 * d))
    → after_bytes s (a ∷ b ∷ c ∷ d ∷ []) ≡ moved 32 (bit_xor s x)
word_at_once s a b c d x ha hb hc hd e = ap (fold after_bit s) (sym (bits_word a b c d x ha hb hc e)) ∙ at_once 32 s x (omega arith)

-- eight bytes at once
pub eight_at_once : (s a b c d e f g h x y : ℕ) → a < 256 → b < 256 → c < 256 → d < 256 → e < 256 → f < 256 → g < 256 → h < 256
    → x ≡ a + 256 * (b + 256 * (c + 256 * d)) → y ≡ e + 256 * (f + 256 * (g + 256 * h))
    → after_bytes s (a ∷ b ∷ c ∷ d ∷ e ∷ f ∷ g ∷ h ∷ []) ≡ bit_xor (moved 64 (bit_xor s x)) (moved 32 y)
eight_at_once s a b c d e f g h x y ha hb hc hd he hf hg hh ex ey =
    after_bytes-append s (a ∷ b ∷ c ∷ d ∷ []) (e ∷ f ∷ g ∷ h ∷ [])
    ∙ ap (λ (r : ℕ). after_bytes r (e ∷ f ∷ g ∷ h ∷ [])) (word_at_once s a b c d x ha hb hc hd ex)
    ∙ word_at_once (moved 32 (bit_xor s x)) e f g h y he hf hg hh ey
    ∙ moved-xor 32 (moved 32 (bit_xor s x)) y
    ∙ ap (λ (r : ℕ). bit_xor r (moved 32 y)) (sym (moved-add 32 32 (bit_xor s x)))

-- a list of eight is its eight places
pub of_eight : (xs : List ℕ) → length xs ≡ 8
    → xs ≡ get_or xs 0 0 ∷ get_or xs 1 0 ∷ get_or xs 2 0 ∷ get_or xs 3 0 ∷ get_or xs 4 0 ∷ get_or xs 5 0 ∷ get_or xs 6 0
    ∷ get_or xs 7 0 ∷ []
of_eight (a ∷ b ∷ c ∷ d ∷ e ∷ f ∷ g ∷ h ∷ []) len = refl
of_eight xs len = absurd (omega arith)
