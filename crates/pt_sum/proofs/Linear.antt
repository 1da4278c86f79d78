-- The register moves linearly, so the bits of a byte may be added at once.
use Rattle.std.proofs.Common.{◌≡◌, ℕ, zero, suc, ◌+◌, ◌*◌, ◌/◌, ◌%◌, ◌^◌, ◌<◌, List, ◌∷◌, refl, sym, ap, ◌∙◌, arith, inl, inr, ◌⊎◌}
use Rattle.std.specs.Prelude.{bit_xor, fold}
use Rattle.std.specs.Int.Bits.{xor_assoc, xor_self, xor_zero_r}
use Rattle.std.specs.List.{flat_map}
use Rattle.std.proofs.lemmas.List.Sums.{fold-append}
use Rattle.std.proofs.Math.Nat.{div-one, pow-suc, div-eq_of_lt}
use Rattle.std.proofs.lemmas.Nat.{xor_comm, xor_shr, xor_mod, shr-shr, div-add-mod', mod_below, pow_pos}
use lib.Bits.{xor_shifted}
use Rattle.pt_sum.specs.Sums.{bits, shifted, after_bit, after_bytes}
use Rattle.pt_sum.specs.inner.Sums.{moved}

pub xor_half : (a b : ℕ) → bit_xor a b / 2 ≡ bit_xor (a / 2) (b / 2)
xor_half a b = xor_shr a b 1

pub xor_odd : (a b : ℕ) → bit_xor a b % 2 ≡ bit_xor (a % 2) (b % 2)
xor_odd a b = xor_mod a b 1

parity : (a : ℕ) → (a % 2 ≡ 0) ⊎ (a % 2 ≡ 1)
parity a = elim (even_or (a % 2) (omega arith)) [ inl e ↦ inl e | inr e ↦ inr e ] where
  even_or : (n : ℕ) → n < 2 → (n ≡ 0) ⊎ (n ≡ 1)
  even_or zero h = inl refl
  even_or (suc zero) h = inr refl
  even_or (suc (suc n)) h = absurd (omega arith)

-- four numbers, two by two
xor_swap : (a b c d : ℕ) → bit_xor (bit_xor a b) (bit_xor c d) ≡ bit_xor (bit_xor a c) (bit_xor b d)
xor_swap a b c d =
    xor_assoc a b (bit_xor c d)
    ∙ ap (bit_xor a) (sym (xor_assoc b c d) ∙ ap (λ (x : ℕ). bit_xor x d) (xor_comm b c) ∙ xor_assoc c b d)
    ∙ sym (xor_assoc a c (bit_xor b d))

pub shifted-even : (a : ℕ) → a % 2 ≡ 0 → shifted a ≡ a / 2
unfolding shifted
shifted-even a e = rw e refl

pub shifted-odd : (a : ℕ) → a % 2 ≡ 1 → shifted a ≡ bit_xor (a / 2) 0xEDB88320
unfolding shifted
shifted-odd a e = rw e refl

pub shifted-xor : (a b : ℕ) → shifted (bit_xor a b) ≡ bit_xor (shifted a) (shifted b)
shifted-xor a b =
    let odd = xor_odd a b in
    let half = xor_half a b in
    elim (parity a) [
      | inl ea ↦ elim (parity b) [
        | inl eb ↦ rw (shifted-even a ea, shifted-even b eb, shifted-even (bit_xor a b) (odd ∙ rw (ea, eb) refl)) half
        | inr eb ↦ rw (shifted-even a ea, shifted-odd b eb, shifted-odd (bit_xor a b) (odd ∙ rw (ea, eb) refl))
            (rw half (xor_assoc (a / 2) (b / 2) 0xEDB88320))
      ]
      | inr ea ↦ elim (parity b) [
        | inl eb ↦ rw (shifted-odd a ea, shifted-even b eb, shifted-odd (bit_xor a b) (odd ∙ rw (ea, eb) refl))
            (rw half (xor_assoc (a / 2) (b / 2) 0xEDB88320 ∙ ap (bit_xor (a / 2)) (xor_comm (b / 2) 0xEDB88320)
            ∙ sym (xor_assoc (a / 2) 0xEDB88320 (b / 2))))
        | inr eb ↦ rw (shifted-odd a ea, shifted-odd b eb, shifted-even (bit_xor a b) (odd ∙ rw (ea, eb) refl))
            (rw half (sym (xor_swap (a / 2) 0xEDB88320 (b / 2) 0xEDB88320
            ∙ ap (bit_xor (bit_xor (a / 2) (b / 2))) (xor_self 0xEDB88320) ∙ xor_zero_r (bit_xor (a / 2) (b / 2)))))
      ]
    ]

pub moved-xor : (n a b : ℕ) → moved n (bit_xor a b) ≡ bit_xor (moved n a) (moved n b)
unfolding moved
moved-xor zero a b = refl
moved-xor (suc n) a b = ap (moved n) (shifted-xor a b) ∙ moved-xor n (shifted a) (shifted b)

pub moved-add : (m n r : ℕ) → moved (m + n) r ≡ moved n (moved m r)
unfolding moved
moved-add zero n r = let e : 0 + n ≡ n = omega arith in rw e refl
moved-add (suc m) n r = let e : suc m + n ≡ suc (m + n) = omega arith in rw e (moved-add m n (shifted r))

pub moved-suc : (n r : ℕ) → moved (suc n) r ≡ shifted (moved n r)
unfolding moved
moved-suc zero r = refl
moved-suc (suc n) r = moved-suc n (shifted r)

-- a number is its lowest bit and the rest
lowest : (y : ℕ) → bit_xor (y % 2) (y / 2 * 2) ≡ y
lowest y = xor_comm (y % 2) (y / 2 * 2) ∙ xor_shifted (y / 2) 1 (y % 2) (omega arith) ∙ div-add-mod' y 2

shifted-double : (z : ℕ) → shifted (z * 2) ≡ z
shifted-double z = shifted-even (z * 2) (omega arith) ∙ omega arith

-- one bit of a number that was added at once
one_bit : (s y : ℕ) → shifted (bit_xor s y) ≡ bit_xor (after_bit s (y % 2)) (y / 2)
unfolding after_bit
one_bit s y =
    ap (λ (x : ℕ). shifted (bit_xor s x)) (sym (lowest y))
    ∙ ap shifted (sym (xor_assoc s (y % 2) (y / 2 * 2)))
    ∙ shifted-xor (bit_xor s (y % 2)) (y / 2 * 2)
    ∙ ap (bit_xor (shifted (bit_xor s (y % 2)))) (shifted-double (y / 2))

-- the bits of a number one after the other, and the number at once
bits_at_once : (n s y : ℕ) → moved n (bit_xor s y) ≡ bit_xor (fold after_bit s (bits n y)) (y / 2 ^ n)
unfolding moved bits
bits_at_once zero s y = ap (bit_xor s) (sym (div-one y))
bits_at_once (suc n) s y =
    ap (moved n) (one_bit s y)
    ∙ bits_at_once n (after_bit s (y % 2)) (y / 2)
    ∙ ap (bit_xor (fold after_bit (after_bit s (y % 2)) (bits n (y / 2)))) (shr-shr y 1 n ∙ ap (λ (k : ℕ). y / 2 ^ k) (omega arith))

pub at_once : (n s x : ℕ) → x < 2 ^ n → fold after_bit s (bits n x) ≡ moved n (bit_xor s x)
at_once n s x small =
    let none : x / 2 ^ n ≡ 0 = div-eq_of_lt small in
    sym (bits_at_once n s x ∙ rw none (xor_zero_r (fold after_bit s (bits n x))))

pub byte_at_once : (s x : ℕ) → x < 256 → fold after_bit s (bits 8 x) ≡ moved 8 (bit_xor s x)
byte_at_once s x small = at_once 8 s x small

-- moving 2 ^ n times a number down n places meets no 1
moved_down : (n z : ℕ) → moved n (z * 2 ^ n) ≡ z
unfolding moved
moved_down zero z = omega arith
moved_down (suc n) z =
    let e : z * 2 ^ suc n ≡ z * 2 ^ n * 2 = rw (pow-suc 2 n) (omega arith) in
    ap (λ (x : ℕ). moved n (shifted x)) e ∙ ap (moved n) (shifted-double (z * 2 ^ n)) ∙ moved_down n z

-- n places at once: what a table says of the low bits, and the rest
pub moved_split : (n y : ℕ) → moved n y ≡ bit_xor (moved n (y % 2 ^ n)) (y / 2 ^ n)
moved_split n y =
    ap (moved n) (sym (xor_comm (y % 2 ^ n) (y / 2 ^ n * 2 ^ n)
    ∙ xor_shifted (y / 2 ^ n) n (y % 2 ^ n) (mod_below y (2 ^ n) (pow_pos n)) ∙ div-add-mod' y (2 ^ n)))
    ∙ moved-xor n (y % 2 ^ n) (y / 2 ^ n * 2 ^ n)
    ∙ ap (bit_xor (moved n (y % 2 ^ n))) (moved_down n (y / 2 ^ n))

pub after_bytes-cons : (s x : ℕ) (xs : List ℕ) → x < 256 → after_bytes s (x ∷ xs) ≡ after_bytes (moved 8 (bit_xor s x)) xs
after_bytes-cons s x xs small =
    fold-append after_bit s (bits 8 x) (flat_map (bits 8) xs) ∙ ap (λ (r : ℕ). after_bytes r xs) (byte_at_once s x small)
