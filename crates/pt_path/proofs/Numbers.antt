-- Numbers as the parser reads them.
use Rattle.std.proofs.Common.{◌≡◌, ◌≢◌, ◌<◌, ◌^◌, ℕ, List, length, get_or, Result, Ok, Err, refl, sym, ap, ◌∙◌, subst, arith, inl, inr}
use Rattle.std.specs.Fmt.{decimal}
use Rattle.std.specs.Int.{IsInRange}
use Rattle.std.specs.Str.Parse.{AllDigits, digits_value, IsNumeral, without_leading_plus}
use Rattle.std.proofs.lemmas.Bool.{cases_lt}
use Rattle.std.proofs.lemmas.Str.Parse.{IsNumeralModel, numerals_by_value, tells_digits, not_in_digits, without_leading_plus_none}
use Rattle.std.proofs.lemmas.Fmt.{decimal_is_IsNumeral, decimal_digit, first_decimal, decimal-digits_value, parse-decimal}
use Rattle.pt_path.specs.Paths.{IsNumber}
use Rattle.pt_path.specs.inner.Paths.{IsPlainText}

own : IsNumeralModel (AllDigits 10) (digits_value 10)
own = numerals_by_value (AllDigits 10) tells_digits

pub digits_of_decimal : (n : ℕ) → n < 2 ^ 64 → IsNumeral 10 (decimal n)
digits_of_decimal n fits = (decimal_is_IsNumeral n fits).0

-- no byte of a number is one that isn't a digit
pub lacks : (n c i : ℕ) → n < 2 ^ 64 → ¬ (IsInRange 48 57 c) → i < length (decimal n) → get_or (decimal n) i 0 ≢ c
lacks n c i fits out within = not_in_digits own (decimal n) c (digits_of_decimal n fits).1 out i within

zero_alone : (n : ℕ) → n < 2 ^ 64 → get_or (decimal n) 0 0 ≡ 48 → length (decimal n) ≡ 1
zero_alone n fits is =
    elim (cases_lt 0 n) [
      | inl more ↦ absurd (let h = first_decimal n more fits in omega arith)
      | inr none ↦ rw (decimal_digit n (omega arith)) refl
    ]

-- a number has nothing in front
pub plain_number : (text : List ℕ) (n : ℕ) → IsNumber text n → IsPlainText text
plain_number text n is =
    subst IsPlainText (sym is.digits) (
      lacks n 43 0 is.fits (λ h. omega (arith, h.0, h.1)) (digits_of_decimal n is.fits).0,
      zero_alone n
          is.fits,
    )

-- what the parser takes: digits of a number that fits, with or without a plus
abbrev pub IsTaken : List ℕ → Type 0
IsTaken text = IsNumeral 10 (without_leading_plus text) × (digits_value 10 (without_leading_plus text) < 2 ^ 64)

-- what is read of a plain text
pub read_number : (text : List ℕ) (n : ℕ) → IsPlainText text → IsTaken text × (n ≡ digits_value 10 (without_leading_plus text))
    → IsNumber text n
read_number text n plain h =
    let e = without_leading_plus_none text plain.0 in
    let digits = subst (λ (t : List ℕ). IsNumeral 10 t) e h.0.0 in
    let fits = subst (λ (t : List ℕ). digits_value 10 t < 2 ^ 64) e h.0.1 in
    let value : n ≡ digits_value 10 text = h.1 ∙ ap (digits_value 10) e in
    record {
      fits = subst (λ (m : ℕ). m < 2 ^ 64) (sym value) fits;
      digits = sym (ap decimal value ∙ decimal-digits_value own text digits.1 digits.0 plain.1 fits);
    }

-- and what isn't
pub unread_number : (text : List ℕ) → ¬ IsTaken text → (n : ℕ) → ¬ IsNumber text n
unread_number text not n is =
    let same : ◌≡◌ {A = Result ℕ ℕ} (Err 0) (Ok n) = parse-decimal {E = ℕ} 64 n text (Err 0) is.fits is.fits is.digits not in cc
