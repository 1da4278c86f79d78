-- The first character of units of UTF-16, and the units behind it.
use Rattle.std.proofs.Common.{◌≡◌, ℕ, ◌-◌, ◌<◌, List, [], ◌∷◌, length, take, drop, ap, ◌∙◌, arith, sym, refl, inl, inr}
use Rattle.std.specs.Prelude.{if◌then◌else◌, Bool, true, false, ◌&&◌, nat_lt, nat_le, Option, Some, None, slice_index, IsSome, IsTrue}
use Rattle.std.specs.Prelude.{SomeIff, MatchOption}
use Rattle.std.specs.Char.{InScalarRange, IsScalar, OutOfScalarRange}
use Rattle.std.specs.Char.Utf16.{utf16_chars, lone_unit_char, is_high_surrogate, is_low_surrogate, surrogate_pair_char}
use Rattle.std.proofs.lemmas.Bool.{lt-ltb, le-ltb, lt-leb, le-leb, leb-true, ltb-true}
use Rattle.std.proofs.lemmas.List.{take_all}
use Rattle.pt_report.specs.inner.Shown.{IsPair}

-- a unit alone: a character where it is a scalar value
lone_scalar : (u : ℕ) → InScalarRange u → lone_unit_char u ≡ Some u
lone_scalar u (inl low) = rw (lt-leb 0xD800 u low) refl
lone_scalar u (inr (from, to)) = rw (le-leb 0xD800 u (omega (arith, from)), le-ltb u 0xE000 from) refl

lone_surrogate : (u : ℕ) → u < 0x1_0000 → OutOfScalarRange u → lone_unit_char u ≡ None
lone_surrogate u small (inl (from, to)) = rw (le-leb 0xD800 u from, lt-ltb u 0xE000 (omega (arith, to))) refl
lone_surrogate u small (inr past) = absurd (omega (arith, small, past))

pub lone_char : (u : ℕ) (c : Option ℕ) → u < 0x1_0000 → SomeIff c (IsScalar u) u
    → MatchOption c (OutOfScalarRange u) (λ (x : ℕ). InScalarRange u) → lone_unit_char u ≡ c
lone_char u None small is cases = lone_surrogate u small cases
lone_char u (Some x) small is cases = lone_scalar u cases ∙ ap Some (sym is.1)

pub pair_char : (code : ℕ) (c : Option ℕ) → SomeIff c (IsScalar code) code → IsSome c → Some code ≡ c
pair_char code None is some = cc
pair_char code (Some x) is some = ap Some (sym is.1)

conj : (a b : Bool) → (a && b) ≡ true → (a ≡ true) × (b ≡ true)
conj true b e = (refl, e)
conj false b e = cc

no_pair : (u v : ℕ) (t : Bool) → (IsPair u v → ⊥) → (is_high_surrogate u && is_low_surrogate v) ≡ t → t ≡ false
no_pair u v false apart is = refl
no_pair u v true apart is =
    let both = conj (is_high_surrogate u) (is_low_surrogate v) is in
    let high = conj (nat_le 0xD800 u) (nat_lt u 0xDC00) both.0 in
    let low = conj (nat_le 0xDC00 v) (nat_lt v 0xE000) both.1 in
    absurd (apart (record {
      high = leb-true 0xD800 u high.0;
      below = ltb-true u 0xDC00 high.1;
      low = leb-true 0xDC00 v low.0;
      last = ltb-true v 0xE000 low.1;
    }))

pub first_lone : (u : ℕ) (us : List ℕ) → (0 < length us → IsPair u (slice_index us 0) → ⊥)
    → utf16_chars (u ∷ us) ≡ lone_unit_char u ∷ utf16_chars us
unfolding utf16_chars
first_lone u [] apart = refl
first_lone u (v ∷ us) apart =
    let no = no_pair u v (is_high_surrogate u && is_low_surrogate v) (apart (omega arith)) refl in
    ap (λ (t : Bool). if t then Some (surrogate_pair_char u v) ∷ utf16_chars us else lone_unit_char u ∷ utf16_chars (v ∷ us)) no

first_pair : (u v : ℕ) (us : List ℕ) → IsPair u v → utf16_chars (u ∷ v ∷ us) ≡ Some (surrogate_pair_char u v) ∷ utf16_chars us
unfolding utf16_chars
first_pair u v us p = rw (le-leb 0xD800 u p.high, lt-ltb u 0xDC00 p.below, le-leb 0xDC00 v p.low, lt-ltb v 0xE000 p.last) refl

-- the first of units that begin with no pair
pub lone_first : (us : List ℕ) (c : Option ℕ) → 0 < length us → (1 < length us → IsPair (slice_index us 0) (slice_index us 1) → ⊥)
    → lone_unit_char (slice_index us 0) ≡ c → utf16_chars us ≡ c ∷ utf16_chars (take (length us - 1) (drop 1 us))
lone_first [] c some apart is = absurd (omega (arith, some))
lone_first (u ∷ us) c some apart is =
    first_lone u us (λ more. apart (omega (arith, more)))
    ∙ ap (λ (o : Option ℕ). o ∷ utf16_chars us) is
    ∙ ap (λ (vs : List ℕ). c ∷ utf16_chars vs) (sym (take_all (length (u ∷ us) - 1) us (omega arith)))

-- the first of units that begin with a pair
pub pair_first : (us : List ℕ) (c : Option ℕ) → 1 < length us → IsPair (slice_index us 0) (slice_index us 1)
    → Some (surrogate_pair_char (slice_index us 0) (slice_index us 1)) ≡ c
    → utf16_chars us ≡ c ∷ utf16_chars (take (length us - 2) (drop 2 us))
pair_first [] c two p is = absurd (omega (arith, two))
pair_first (u ∷ []) c two p is = absurd (omega (arith, two))
pair_first (u ∷ v ∷ us) c two p is =
    first_pair u v us p
    ∙ ap (λ (o : Option ℕ). o ∷ utf16_chars us) is
    ∙ ap (λ (vs : List ℕ). c ∷ utf16_chars vs) (sym (take_all (length (u ∷ v ∷ us) - 2) us (omega arith)))

pub not_true : (b : Bool) → b ≡ false → IsTrue b → ⊥
not_true true e t = cc
not_true false e t = cc
