-- What a change of one part does to the sum of all.
use Rattle.std.proofs.Common.{◌≡◌, ℕ, zero, suc, ◌*◌, ◌/◌, List, [], ◌∷◌, ◌++◌, length, refl, sym, ap, ◌∙◌, arith}
use Rattle.std.specs.Prelude.{bit_xor, fold}
use Rattle.std.specs.Int.Bits.{xor_assoc, xor_self}
use Rattle.std.specs.List.{flat_map}
use Rattle.std.proofs.lemmas.List.{length-append}
use Rattle.std.proofs.lemmas.Nat.{xor_comm}
use Rattle.pt_sum.specs.Sums.{bits, shifted, after_bit, after_bytes, crc_of}
use Rattle.pt_sum.specs.inner.Sums.{moved}
use Rattle.pt_sum.proofs.Linear.{shifted-xor}
use Rattle.pt_sum.proofs.Terms.{after_bytes-append}

-- the last two of three may change places
xor_turn : (a b c : ℕ) → bit_xor (bit_xor a b) c ≡ bit_xor (bit_xor a c) b
xor_turn a b c = xor_assoc a b c ∙ ap (bit_xor a) (xor_comm b c) ∙ sym (xor_assoc a c b)

xor_back : (a b : ℕ) → bit_xor a (bit_xor a b) ≡ b
xor_back a b = sym (xor_assoc a a b) ∙ ap (λ (x : ℕ). bit_xor x b) (xor_self a)

-- what is in both falls out
xor_common : (a b c : ℕ) → bit_xor (bit_xor a c) (bit_xor b c) ≡ bit_xor a b
xor_common a b c =
    xor_assoc a c (bit_xor b c) ∙ ap (bit_xor a) (ap (bit_xor c) (xor_comm b c) ∙ xor_back c b)

-- a difference moves by as many places as there are bits, whatever they are
bits_linear : (s t : ℕ) (bs : List ℕ) → fold after_bit (bit_xor s t) bs ≡ bit_xor (fold after_bit s bs) (moved (length bs) t)
unfolding moved after_bit
bits_linear s t [] = refl
bits_linear s t (b ∷ bs) =
    ap (λ (r : ℕ). fold after_bit r bs) (ap shifted (xor_turn s t b) ∙ shifted-xor (bit_xor s b) t)
    ∙ bits_linear (after_bit s b) (shifted t) bs

length-bits : (n x : ℕ) → length (bits n x) ≡ n
unfolding bits
length-bits zero x = refl
length-bits (suc n) x = ap suc (length-bits n (x / 2))

length-all_bits : (xs : List ℕ) → length (flat_map (bits 8) xs) ≡ 8 * length xs
length-all_bits [] = refl
length-all_bits (x ∷ xs) =
    length-append (bits 8 x) (flat_map (bits 8) xs) ∙ omega (arith, length-bits 8 x, length-all_bits xs)

bytes_linear : (s t : ℕ) (xs : List ℕ) → after_bytes (bit_xor s t) xs ≡ bit_xor (after_bytes s xs) (moved (8 * length xs) t)
bytes_linear s t xs =
    bits_linear s t (flat_map (bits 8) xs)
    ∙ ap (λ (n : ℕ). bit_xor (after_bytes s xs) (moved n t)) (length-all_bits xs)

-- two parts of one length differ alike behind every register
same_difference : (s t : ℕ) (x y : List ℕ) → length x ≡ length y
    → bit_xor (after_bytes s x) (after_bytes s y) ≡ bit_xor (after_bytes t x) (after_bytes t y)
same_difference s t x y alike =
    let m : ℕ = moved (8 * length x) (bit_xor t s) in
    let back : s ≡ bit_xor t (bit_xor t s) = sym (xor_back t s) in
    let ex : after_bytes s x ≡ bit_xor (after_bytes t x) m = ap (λ (r : ℕ). after_bytes r x) back ∙ bytes_linear t (bit_xor t s) x in
    let ey : after_bytes s y ≡ bit_xor (after_bytes t y) m =
    ap (λ (r : ℕ). after_bytes r y) back ∙ bytes_linear t (bit_xor t s) y
    ∙ ap (λ (n : ℕ). bit_xor (after_bytes t y) (moved (8 * n) (bit_xor t s))) (sym alike) in
    rw (ex, ey) (xor_common (after_bytes t x) (after_bytes t y) m)

-- the sums alone say how two parts of one length differ behind any register
crc_difference : (s : ℕ) (x y : List ℕ) → length x ≡ length y → bit_xor (crc_of x) (crc_of y) ≡ bit_xor (after_bytes s x) (after_bytes s y)
crc_difference s x y alike =
    xor_common (after_bytes 0xFFFFFFFF x) (after_bytes 0xFFFFFFFF y) 0xFFFFFFFF ∙ same_difference 0xFFFFFFFF s x y alike

three_parts : (s : ℕ) (p x t : List ℕ) → after_bytes s (p ++ (x ++ t)) ≡ after_bytes (after_bytes (after_bytes s p) x) t
three_parts s p x t = after_bytes-append s p (x ++ t) ∙ after_bytes-append (after_bytes s p) x t

-- the sum after one part changed
pub changed : (p x y s : List ℕ) → length x ≡ length y
    → bit_xor (crc_of (p ++ (x ++ s))) (moved (8 * length s) (bit_xor (crc_of x) (crc_of y))) ≡ crc_of (p ++ (y ++ s))
changed p x y s alike =
    let all : ℕ = 0xFFFFFFFF in
    let front : ℕ = after_bytes all p in
    let a : ℕ = after_bytes front x in
    let b : ℕ = after_bytes front y in
    let turned : b ≡ bit_xor a (bit_xor a b) = sym (xor_back a b) in
    let after : after_bytes b s ≡ bit_xor (after_bytes a s) (moved (8 * length s) (bit_xor a b)) =
    ap (λ (r : ℕ). after_bytes r s) turned ∙ bytes_linear a (bit_xor a b) s in
    let d : bit_xor (crc_of x) (crc_of y) ≡ bit_xor a b = crc_difference front x y alike in
    rw (d, three_parts all p x s, three_parts all p y s, after)
    (xor_turn (after_bytes a s) all (moved (8 * length s) (bit_xor a b)))

-- the sum of two parts
pub joined : (x y : List ℕ) → bit_xor (crc_of y) (moved (8 * length y) (crc_of x)) ≡ crc_of (x ++ y)
joined x y =
    let all : ℕ = 0xFFFFFFFF in
    let front : ℕ = after_bytes all x in
    let turned : front ≡ bit_xor all (crc_of x) = sym (ap (bit_xor all) (xor_comm front all) ∙ xor_back all front) in
    let after : after_bytes front y ≡ bit_xor (after_bytes all y) (moved (8 * length y) (crc_of x)) =
    ap (λ (r : ℕ). after_bytes r y) turned ∙ bytes_linear all (crc_of x) y in
    sym (ap (λ (r : ℕ). bit_xor r all) (after_bytes-append all x y ∙ after)
    ∙ xor_turn (after_bytes all y) (moved (8 * length y) (crc_of x)) all)
