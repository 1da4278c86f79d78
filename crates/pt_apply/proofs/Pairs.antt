-- Digits decoded pair by pair, with the worst of them.
use Rattle.std.proofs.Common.{◌≡◌, ℕ, ◌+◌, ◌*◌, ◌%◌, ◌<◌, ◌≤◌, List, length, take, drop, slice_index, slice_set, max, Option, Some, None}
use Rattle.std.proofs.Common.{Ok, Err, refl, sym, ap, ◌∙◌, arith, inl, inr}
use Rattle.std.specs.Prelude.{IsTrue, nat_lt}
use Rattle.std.specs.Ordering.{ord_max, nat_cmp}
use Rattle.std.proofs.lemmas.Bool.{cases_lt}
use Rattle.hex.specs.Hex.{decode_pairs, hex_digit_value, pair_value}
use Rattle.hex.specs.declared.error.FromHexError.{FromHexError}
use Rattle.hex.specs.declared.error.FromHexError.TheVariants.{InvalidHexCharacter}
use Rattle.hex.proofs.Pairs.{prepend, decode_step, decode_err}

-- after k pairs: all of them are decoded where the worst is a digit's value, and else there is an error
pub record Decoded (s out : List ℕ) (k worst : ℕ) : Type 0 where
  pub good : worst < 16 → decode_pairs 0 s ≡ prepend (take k out) (decode_pairs (2 * k) (drop (2 * k) s))
  pub bad : 16 ≤ worst → (e : FromHexError) × (decode_pairs 0 s ≡ Err e)

pair_good : (a b i h l : ℕ) → hex_digit_value a ≡ Some h → hex_digit_value b ≡ Some l → pair_value a b i ≡ Ok (h * 16 + l)
pair_good a b i h l p q = rw (p, q) refl

bad_high : (a b i : ℕ) → hex_digit_value a ≡ None → (e : FromHexError) × (pair_value a b i ≡ Err e)
bad_high a b i p = (InvalidHexCharacter a i, rw p refl)

bad_low : (a b i : ℕ) → hex_digit_value b ≡ None → (e : FromHexError) × (pair_value a b i ≡ Err e)
bad_low a b i q = by_high (hex_digit_value a) refl where
  by_high : (o : Option ℕ) → hex_digit_value a ≡ o → (e : FromHexError) × (pair_value a b i ≡ Err e)
  by_high (Some v) p = (InvalidHexCharacter b (i + 1), rw (p, q) refl)
  by_high None p = bad_high a b i p

byte_of : (h l : ℕ) → h < 16 → l < 16 → (h * 16 % 256 + l) % 256 ≡ h * 16 + l
byte_of h l high low = omega arith

pub decoded_more : (s out : List ℕ) (k worst h l v : ℕ) → Decoded s out k worst → 2 * k + 1 < length s → k < length out
    → (h < 16 → hex_digit_value (slice_index s (2 * k)) ≡ Some h) → (16 ≤ h → hex_digit_value (slice_index s (2 * k)) ≡ None)
    → (l < 16 → hex_digit_value (slice_index s (2 * k + 1)) ≡ Some l) → (16 ≤ l → hex_digit_value (slice_index s (2 * k + 1)) ≡ None)
    → v ≡ (h * 16 % 256 + l) % 256 → Decoded s (slice_set out k v) (k + 1) (max (max worst h) l)
decoded_more s out k worst h l v before fits room some_high none_high some_low none_low is =
    let a = slice_index s (2 * k) in
    let b = slice_index s (2 * k + 1) in
    record {
      good = λ small.
          let high : h < 16 = omega arith in
          let low : l < 16 = omega arith in
          let so_far : worst < 16 = omega arith in
          let pair : pair_value a b (2 * k) ≡ Ok v =
          pair_good a b (2 * k) h l (some_high high) (some_low low) ∙ ap Ok (sym (is ∙ byte_of h l high low)) in
          decode_step s out k v fits room pair (before.good so_far);
      bad = λ big. elim (cases_lt worst 16) [
        | inr old ↦ before.bad old
        | inl so_far ↦
            elim (cases_lt h 16) [
              | inr high ↦
                  let p = bad_high a b (2 * k) (none_high high) in
                  (p.0, decode_err s out k p.0 fits p.1 (before.good so_far))
              | inl fine ↦
                  let p = bad_low a b (2 * k) (none_low (omega arith)) in
                  (p.0, decode_err s out k p.0 fits p.1 (before.good so_far))
            ]
      ];
    }

pub larger : (a b : ℕ) → ord_max nat_cmp a b ≡ max a b
larger a b = grind arith

pub below : (w : ℕ) → IsTrue (nat_lt w 16) → w < 16
below w is = grind arith
