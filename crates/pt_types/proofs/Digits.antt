-- What the parser of numbers says of hexadecimal digits.
use Rattle.std.proofs.Common.{◌≡◌, ◌≢◌, ◌<◌, ◌≤◌, ◌^◌, ℕ, List, [], ◌∷◌, length, Bool, true, false, Some, None, Result, Ok, Err}
use Rattle.std.proofs.Common.{refl, sym, ap, ◌∙◌, subst, arith, lit≤}
use Rattle.std.specs.Prelude.{◌==◌, nat_lt, slice_index}
use Rattle.std.specs.Char.{is_digit, digit_value}
use Rattle.std.specs.List.{list_all}
use Rattle.std.specs.Result.{OkIff, result_ok}
use Rattle.std.specs.Str.Parse.{AllDigits, IsNumeral, ParsesUnsigned, digits_value, without_leading_plus}
use Rattle.std.proofs.lemmas.Bool.{true≢false, ne_eqb, lt-ltb, ltb-true}
use Rattle.std.proofs.lemmas.Int.Digits.{digits_value-lt}
use Rattle.pt_types.specs.Types.{hex_of, code_of, number_of}

-- digits are digits, as a fact and as a test
all_digits : (text : List ℕ) → AllDigits 16 text → list_all (λ c. is_digit c 16) text ≡ true
all_digits [] digits = refl
all_digits (c ∷ cs) digits = rw (lt-ltb (digit_value c) 16 digits.0) (all_digits cs digits.1)

digits_all : (text : List ℕ) → list_all (λ c. is_digit c 16) text ≡ true → AllDigits 16 text
digits_all [] all = tt
digits_all (c ∷ cs) all = by_test (nat_lt (digit_value c) 16) refl (λ rest. digits_all cs rest) where
  by_test : (p : Bool) → nat_lt (digit_value c) 16 ≡ p → (list_all (λ c. is_digit c 16) cs ≡ true → AllDigits 16 cs) → AllDigits 16 (c ∷ cs)
  by_test true is rest = (ltb-true (digit_value c) 16 is, rest (sym (rw is refl) ∙ all))
  by_test false is rest = absurd (true≢false (sym all ∙ rw is refl))

-- no plus stands in front
abbrev pub NoPlus : List ℕ → Type 0
NoPlus text = slice_index text 0 ≢ 43

no_plus : (text : List ℕ) → NoPlus text → without_leading_plus text ≡ text
no_plus text none = rw (ne_eqb (slice_index text 0) 43 none) refl

-- what is parsed is the number that the digits write, where all such numbers fit
abbrev Parses : {E : Type 0} → ℕ → List ℕ → Result ℕ E → Type 0
Parses bits text r = OkIff r (IsNumeral 16 text × (digits_value 16 text < 2 ^ bits)) (digits_value 16 text)

pub hex_parsed : {E : Type 0} (bits : ℕ) (text : List ℕ) (r : Result ℕ E) → 0 < length text → 16 ^ length text ≤ 2 ^ bits → NoPlus text
    → ParsesUnsigned bits 16 text r → result_ok r ≡ hex_of text
hex_parsed {E} bits text r some fits none parsed =
    by_result r (subst (λ (t : List ℕ). Parses bits t r) (no_plus text none) parsed) where
      by_result : (r : Result ℕ E) → Parses bits text r → result_ok r ≡ hex_of text
      by_result (Ok n) is = ap Some is.1 ∙ sym (rw (all_digits text is.0.0.1) refl)
      by_result (Err e) not = by_test (list_all (λ c. is_digit c 16) text) refl where
        by_test : (p : Bool) → list_all (λ c. is_digit c 16) text ≡ p → None ≡ hex_of text
        by_test true is =
            let digits = digits_all text is in
            let small = digits_value-lt 16 text digits in
            absurd (not ((some, digits), omega (arith, small, fits)))
        by_test false is = sym (rw is refl)

-- a text with a plus in front is none
pub plus_first : (text : List ℕ) → 0 < length text → slice_index text 0 ≡ 43 → hex_of text ≡ None
plus_first [] some plus = absurd (omega arith)
plus_first (c ∷ cs) some plus = subst (λ (c : ℕ). hex_of (c ∷ cs) ≡ None) (sym plus) refl

pub code_parsed : {E : Type 0} (text : List ℕ) (r : Result ℕ E) → length text ≡ 4 → NoPlus text → ParsesUnsigned 16 16 text r
    → result_ok r ≡ code_of text
code_parsed text r len none parsed =
    hex_parsed 16 text r (omega (arith, len)) (rw len (lit≤ tt)) none parsed ∙ sym (rw len refl)

pub no_code : (text : List ℕ) → length text ≢ 4 → None ≡ code_of text
no_code text other = sym (rw (ne_eqb (length text) 4 other) refl)

pub plus_no_code : (text : List ℕ) → 0 < length text → slice_index text 0 ≡ 43 → None ≡ code_of text
plus_no_code text some plus = by_test (length text == 4) refl where
  by_test : (p : Bool) → (length text == 4) ≡ p → None ≡ code_of text
  by_test true is = sym (rw is (plus_first text some plus))
  by_test false is = sym (rw is refl)

pub number_parsed : {E : Type 0} (text : List ℕ) (r : Result ℕ E) → 0 < length text → length text ≤ 2 → NoPlus text
    → ParsesUnsigned 8 16 text r → result_ok r ≡ number_of text
number_parsed (a ∷ []) r some few none parsed = hex_parsed 8 (a ∷ []) r some (lit≤ tt) none parsed
number_parsed (a ∷ b ∷ []) r some few none parsed = hex_parsed 8 (a ∷ b ∷ []) r some (lit≤ tt) none parsed
number_parsed text r some few none parsed = absurd (omega (arith, some, few))
