-- Fields that are values, and those that are none.
use Rattle.std.proofs.Common.{◌≡◌, ◌≢◌, ◌<◌, ◌≤◌, ◌^◌, ◌+◌, ◌-◌, ◌&&◌, ◌⊎◌, ℕ, true, false, cond, nat_le, nat_lt, List, [], ◌∷◌, ◌++◌}
use Rattle.std.proofs.Common.{length, get_or, Option, Some, None, Ok, Err, refl, sym, ap, ◌∙◌, subst, inl, inr, arith, append-nil, eqb}
use Rattle.std.specs.Prelude.{slice_index, not}
use Rattle.std.specs.Char.{digit_value}
use Rattle.std.specs.Fmt.{decimal}
use Rattle.std.specs.List.{slice_split, join_with_byte, list_all, All}
use Rattle.std.specs.Str.{bytes_eq}
use Rattle.std.specs.Str.Parse.{AllDigits, IsNumeral, digits_value, without_leading_plus}
use Rattle.std.proofs.lemmas.Bool.{cases_Bool, and_parts, ne_eqb, lt-ltb, ltb-true, leb-true}
use Rattle.std.proofs.lemmas.Bool.Decides.{nat_tests}
use Rattle.std.proofs.lemmas.Fmt.{decimal_is_IsNumeral}
use Rattle.std.proofs.lemmas.Int.Digits.{digits_value-lt}
use Rattle.std.proofs.lemmas.List.Elements.{All-from_get_or}
use Rattle.std.proofs.lemmas.List.Splits.{slice_split_none, slice_split_at, join_with_byte-slice_split}
use Rattle.std.proofs.lemmas.Str.Parse.{without_leading_plus_none}
use Rattle.std.proofs.lemmas.Slice.Eq.{bytes_eq-Decides}
use Rattle.pt_path.specs.Paths.{IsNumber, IsPath, IsLetter, letter_text}
use Rattle.pt_path.specs.declared.path.Path.{Path}
use Rattle.pt_path.proofs.Numbers.{lacks}
use Rattle.pt_words.specs.Words.{greatest, number_in, letter_in, path_of, path_in, code_in}
use Rattle.pt_words.specs.declared.error.EditError.TheVariants.{NotANumber, NotACode}
use Rattle.pt_words.specs.declared.word.Code.TheVariants.{Two, Four}

-- ## Numbers.

-- the digits of a number tell it
value_of : (text : List ℕ) (n : ℕ) → IsNumber text n → digits_value 10 text ≡ n
value_of text n is = ap (λ (t : List ℕ). digits_value 10 t) is.digits ∙ (decimal_is_IsNumeral n is.fits).1

-- a number is read where it is in the range
read_number : (least most : ℕ) (text : List ℕ) (n : ℕ) → IsNumber text n
    → number_in least most text ≡ cond (nat_le least n && nat_le n most) (Ok n) (Err NotANumber)
unfolding number_in
read_number least most text n is =
    let same : bytes_eq text (decimal n) ≡ true = (bytes_eq-Decides text (decimal n)).1 is.digits in
    rw (value_of text n is, same) refl

pub in_range : (least most : ℕ) (text : List ℕ) (n : ℕ) → IsNumber text n → least ≤ n → n ≤ most → Ok n ≡ number_in least most text
in_range least most text n is low high =
    let range : (nat_le least n && nat_le n most) ≡ true = grind (arith, nat_tests) in
    sym (read_number least most text n is ∙ (rw range refl))

pub too_low : (least most : ℕ) (text : List ℕ) (n : ℕ) → IsNumber text n → n < least → Err NotANumber ≡ number_in least most text
too_low least most text n is low =
    let range : (nat_le least n && nat_le n most) ≡ false = grind (arith, nat_tests) in
    sym (read_number least most text n is ∙ (rw range refl))

pub too_high : (least most : ℕ) (text : List ℕ) (n : ℕ) → IsNumber text n → most < n → Err NotANumber ≡ number_in least most text
too_high least most text n is high =
    let range : (nat_le least n && nat_le n most) ≡ false = grind (arith, nat_tests) in
    sym (read_number least most text n is ∙ (rw range refl))

-- what is read in a range
pub record IsRead (least most : ℕ) (text : List ℕ) (n : ℕ) : Type 0 where
  pub read : number_in least most text ≡ Ok n
  pub digits : text ≡ decimal n
  pub low : least ≤ n
  pub high : n ≤ most

pub number_cases : (least most : ℕ) (text : List ℕ)
    → ((n : ℕ) × IsRead least most text n) ⊎ (number_in least most text ≡ Err NotANumber)
unfolding number_in
number_cases least most text =
    let n = digits_value 10 text in
    elim (cases_Bool (bytes_eq text (decimal n) && (nat_le least n && nat_le n most))) [
      | inl pass ↦
          let parts = and_parts (bytes_eq text (decimal n)) (nat_le least n && nat_le n most) pass in
          let range = and_parts (nat_le least n) (nat_le n most) parts.1 in
          inl (
            n,
            record {
              read = rw pass refl;
              digits = (bytes_eq-Decides text (decimal n)).0 parts.0;
              low = leb-true least n range.0;
              high = leb-true n most range.1;
            },
          )
      | inr fail ↦ inr (rw fail refl)
    ]

-- what is no number isn't read
pub unread_number : (least most : ℕ) (text : List ℕ) → most < 2 ^ 64 → ((n : ℕ) → ¬ IsNumber text n)
    → number_in least most text ≡ Err NotANumber
unread_number least most text fits none = elim (number_cases least most text) as (λ _. number_in least most text ≡ Err NotANumber) [
  | inl is ↦ absurd (none is.0 (record { fits = omega (arith, is.1.high); digits = is.1.digits }))
  | inr not ↦ not
]

-- ## Paths.

-- a text without a dot is one part
undotted : (n : ℕ) → n < 2 ^ 64 → All (λ x. eqb x 46 ≡ false) (decimal n)
undotted n fits = All-from_get_or (λ x. eqb x 46 ≡ false) (decimal n) 0
    (λ i within. ne_eqb (get_or (decimal n) i 0) 46 (lacks n 46 i fits (λ h. omega (arith, h.0, h.1)) within))

alone : (n : ℕ) → 1 ≤ n → n < 2 ^ 64 → number_in 1 greatest (decimal n) ≡ Ok n
alone n first fits = sym (in_range 1 greatest (decimal n) n (record { fits = fits; digits = refl }) first (omega (arith, fits)))

-- nor is a letter a dot
letter_part : (l : ℕ) → slice_split (λ b. eqb b 46) ((97 + l) ∷ []) ≡ ((97 + l) ∷ []) ∷ []
letter_part l = rw (ne_eqb (97 + l) 46 (λ same. omega (arith, same))) refl

read_letter : (l : ℕ) → l < 8 → letter_in ((97 + l) ∷ []) ≡ Ok l
unfolding letter_in
read_letter l small =
    let range : (nat_le 97 (97 + l) && nat_le (97 + l) 104) ≡ true = grind (arith, nat_tests) in
    rw range (ap (λ (x : ℕ). Ok x) (omega arith))

path_parts : (n : ℕ) (o : Option ℕ) → 1 ≤ n → n < 2 ^ 64 → IsLetter o
    → path_of (slice_split (λ b. eqb b 46) (decimal n ++ letter_text o)) ≡ Ok (record { number = n; letter = o })
unfolding path_of
path_parts n None first fits letter =
    rw (append-nil (decimal n), slice_split_none (λ b. eqb b 46) (decimal n) (undotted n fits), alone n first fits) refl
path_parts n (Some l) first fits letter =
    rw (slice_split_at (λ b. eqb b 46) (decimal n) 46 ((97 + l) ∷ []) (undotted n fits) refl, letter_part l) (rw (
      alone n first fits,
      read_letter l letter,
    ) refl)

pub read_path : (text : List ℕ) (p : Path) → IsPath text p → path_in text ≡ Ok p
unfolding path_in
read_path text p is = ap (λ (t : List ℕ). path_of (slice_split (λ b. eqb b 46) t)) is.written
    ∙ path_parts p.number p.letter is.first is.fits is.letter

letter_cases : (text : List ℕ) → ((l : ℕ) × (l < 8) × (text ≡ (97 + l) ∷ [])) ⊎ (letter_in text ≡ Err NotANumber)
unfolding letter_in
letter_cases [] = inr refl
letter_cases (c ∷ []) = elim (cases_Bool (nat_le 97 c && nat_le c 104)) [
  | inl pass ↦
      let range = and_parts (nat_le 97 c) (nat_le c 104) pass in
      let low = leb-true 97 c range.0 in
      let high = leb-true c 104 range.1 in
      inl (c - 97, omega (arith, low, high), ap (λ (x : ℕ). x ∷ []) (omega (arith, low)))
  | inr fail ↦ inr (rw fail refl)
]
letter_cases (c ∷ d ∷ rest) = inr refl

path_cases : (parts : List (List ℕ)) → ((p : Path) × IsPath (join_with_byte 46 parts) p) ⊎ (path_of parts ≡ Err NotANumber)
unfolding path_of
path_cases [] = inr refl
path_cases (digits ∷ []) = elim (number_cases 1 greatest digits) [
  | inl is ↦ inl (
    record { number = is.0; letter = None },
    record {
      first = is.1.low;
      fits = omega (arith, is.1.high);
      letter = tt;
      written = is.1.digits ∙ sym (append-nil (decimal is.0));
    },
  )
  | inr not ↦ inr (rw not refl)
]
path_cases (digits ∷ letter ∷ []) = elim (number_cases 1 greatest digits) [
  | inl is ↦ elim (letter_cases letter) [
    | inl l ↦ inl (
      record { number = is.0; letter = Some l.0 },
      record {
        first = is.1.low;
        fits = omega (arith, is.1.high);
        letter = l.1;
        written = rw (is.1.digits, l.2) refl;
      },
    )
    | inr not ↦ inr (rw (is.1.read, not) refl)
  ]
  | inr not ↦ inr (rw not refl)
]
path_cases (f ∷ g ∷ h ∷ r) = inr refl

-- what is no path isn't read
pub unread_path : (text : List ℕ) → ((p : Path) → ¬ IsPath text p) → path_in text ≡ Err NotANumber
unfolding path_in
unread_path text none =
    let parts = slice_split (λ b. eqb b 46) text in
    elim (path_cases parts) as (λ _. path_of parts ≡ Err NotANumber) [
      | inl is ↦ absurd (none is.0 (subst (λ (t : List ℕ). IsPath t is.0) (join_with_byte-slice_split 46 text) is.1))
      | inr not ↦ not
    ]

-- ## Ends.

-- a text without a plus in front
pub no_plus : (text : List ℕ) → ((rest : List ℕ) → text ≢ 43 ∷ rest) → eqb (slice_index text 0) 43 ≡ false
no_plus [] none = refl
no_plus (c ∷ rest) none = ne_eqb c 43 (λ same. none rest (ap (λ (x : ℕ). x ∷ rest) same))

-- ## Codes.

digits_pass : (text : List ℕ) → AllDigits 16 text → list_all (λ c. nat_lt (digit_value c) 16) text ≡ true
digits_pass [] all = refl
digits_pass (c ∷ cs) all = rw (lt-ltb (digit_value c) 16 all.0) (digits_pass cs all.1)

digits_from : (text : List ℕ) → list_all (λ c. nat_lt (digit_value c) 16) text ≡ true → AllDigits 16 text
digits_from [] pass = tt
digits_from (c ∷ cs) pass =
    let parts = and_parts (nat_lt (digit_value c) 16) (list_all (λ c. nat_lt (digit_value c) 16) cs) pass in
    (ltb-true (digit_value c) 16 parts.0, digits_from cs parts.1)

-- what the parser of numbers takes, of so many bits
abbrev IsTaken : List ℕ → ℕ → Type 0
IsTaken text bits = IsNumeral 16 (without_leading_plus text) × (digits_value 16 (without_leading_plus text) < 2 ^ bits)

-- without a plus in front it is digits
taken : (text : List ℕ) (n bits : ℕ) → get_or text 0 0 ≢ 43 → IsTaken text bits × (n ≡ digits_value 16 (without_leading_plus text))
    → (list_all (λ c. nat_lt (digit_value c) 16) text ≡ true) × (n ≡ digits_value 16 text)
taken text n bits plain h =
    let same = without_leading_plus_none text plain in
    (digits_pass text (subst (λ (t : List ℕ). AllDigits 16 t) same h.0.0.1), h.1 ∙ ap (digits_value 16) same)

pub read_two : (text : List ℕ) (n : ℕ) → length text ≡ 2 → get_or text 0 0 ≢ 43
    → IsTaken text 8 × (n ≡ digits_value 16 (without_leading_plus text)) → Ok (Two n) ≡ code_in text
unfolding code_in
read_two text n two plain h =
    let is = taken text n 8 plain h in rw (is.0, two, is.1) refl

pub read_four : (text : List ℕ) (n : ℕ) → length text ≡ 4 → get_or text 0 0 ≢ 43
    → IsTaken text 16 × (n ≡ digits_value 16 (without_leading_plus text)) → Ok (Four n) ≡ code_in text
unfolding code_in
read_four text n four plain h =
    let is = taken text n 16 plain h in rw (is.0, four, is.1) refl

plus_no_digit : (text : List ℕ) → 0 < length text → AllDigits 16 text → get_or text 0 0 ≢ 43
plus_no_digit [] some all = absurd (omega (arith, some))
plus_no_digit (c ∷ text) some all = λ plus.
    let digit = subst (λ (k : ℕ). digit_value k < 16) plus all.0 in omega (arith, digit)

-- what the parser of numbers refuses isn't so many digits
pub unread_code : (text : List ℕ) (n k : ℕ) → 0 < n → length text ≡ n → 16 ^ n ≤ 2 ^ k
    → ¬ IsTaken text k → Err NotACode ≡ code_in text
unfolding code_in
unread_code text n k some len fits none = elim (cases_Bool (list_all (λ c. nat_lt (digit_value c) 16) text)) [
  | inl pass ↦
      let all = digits_from text pass in
      let long : 0 < length text = omega (arith, some, len) in
      let value = subst (λ (m : ℕ). digits_value 16 text < 16 ^ m) len (digits_value-lt 16 text all) in
      let same = without_leading_plus_none text (plus_no_digit text long all) in
      let is : IsNumeral 16 text × (digits_value 16 text < 2 ^ k) = ((long, all), omega (arith, value, fits)) in
      absurd (none (subst (λ (t : List ℕ). IsNumeral 16 t × (digits_value 16 t < 2 ^ k)) (sym same) is))
  | inr fail ↦ rw fail refl
]
