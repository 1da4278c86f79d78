-- Names that are written as one are equal.
use Rattle.std.proofs.Common.{◌≡◌, ◌∙◌, ◌<◌, ◌≤◌, ◌^◌, ℕ, zero, suc, List, [], ◌∷◌, ◌++◌, length, map, replicate, Bool, true, false, ◌&&◌}
use Rattle.std.proofs.Common.{Option, Some, None, not, codes, refl, sym, ap, ap₂, arith, lit<, length-append, true≢false, is_some}
use Rattle.std.proofs.Common.{unwrap_or}
use Rattle.std.specs.Prelude.{if◌then◌else◌, nat_eq, nat_le, nat_lt}
use Rattle.std.specs.List.{flat_map, list_any}
use Rattle.std.specs.Char.Escape.{encode_utf16}
use Rattle.std.specs.Char.Utf16.{utf16_chars, utf16_lossy_chars, lone_unit_char, has_unpaired_surrogate, is_high_surrogate}
use Rattle.std.specs.Char.Utf16.{is_low_surrogate}
use Rattle.std.specs.Char.Utf16.{surrogate_pair_char}
use Rattle.std.specs.Str.{encode_utf8_all}
use Rattle.std.proofs.lemmas.Bool.{and_parts, eqb-true, le-ltb, leb-true, lt-ltb, ltb-true, or_parts}
use Rattle.std.proofs.lemmas.List.{length-replicate, nil_from_length}
use Rattle.std.proofs.lemmas.Str.{encodes_same}
use Rattle.serde_json.specs.Data.{Data, string}
use Rattle.pt_tables.specs.Fields.{nums}
use Rattle.pt_tables.specs.Entries.{all_zero, has_zero, is_no_text, name_fields, trimmed, units_fields}
use Rattle.pt_tables.specs.Shown.{AreBelow}
use Rattle.pt_tables.proofs.Found.{Tells, tells_here, tells_none}
use Rattle.pt_tables.proofs.SameLists.{one_nums}

-- ## Units that spell characters.

abbrev no_char : Option ℕ → Bool
no_char o = not (is_some o)

abbrev or_mark : Option ℕ → ℕ
or_mark o = unwrap_or o 0xFFFD

abbrev units_of : List (Option ℕ) → List ℕ
units_of os = flat_map encode_utf16 (map or_mark os)

one_unit : (c : ℕ) → c < 2 ^ 16 → encode_utf16 c ≡ c ∷ []
one_unit c fits = rw (lt-ltb c 0x1_0000 fits) refl

two_units : (u v : ℕ) → 0xD800 ≤ u → 0xDC00 ≤ v → v < 0xE000 → encode_utf16 (surrogate_pair_char u v) ≡ u ∷ v ∷ []
two_units u v high low last =
    let code = surrogate_pair_char u v in
    rw (le-ltb code 0x1_0000 (omega arith))
    (ap₂ (λ (x y : ℕ). x ∷ y ∷ []) (omega (arith, high, low, last)) (omega (arith, high, low, last)))

lone_back : (u : ℕ) (os : List (Option ℕ)) → u < 2 ^ 16 → list_any no_char (lone_unit_char u ∷ os) ≡ false
    → (list_any no_char os ≡ false) × (units_of (lone_unit_char u ∷ os) ≡ u ∷ units_of os)
lone_back u os fits whole = by_test (nat_le 0xD800 u && nat_lt u 0xE000) whole where
  by_test : (t : Bool) → list_any no_char ((if t then None else Some u) ∷ os) ≡ false
      → (list_any no_char os ≡ false) × (units_of ((if t then None else Some u) ∷ os) ≡ u ∷ units_of os)
  by_test true whole = absurd (true≢false whole)
  by_test false whole = (whole, rw (one_unit u fits) refl)

pair_back : (u v : ℕ) (os : List (Option ℕ)) → (is_high_surrogate u && is_low_surrogate v) ≡ true
    → units_of (Some (surrogate_pair_char u v) ∷ os) ≡ u ∷ v ∷ units_of os
pair_back u v os is =
    let both = and_parts (is_high_surrogate u) (is_low_surrogate v) is in
    let high = and_parts (nat_le 0xD800 u) (nat_lt u 0xDC00) both.0 in
    let low = and_parts (nat_le 0xDC00 v) (nat_lt v 0xE000) both.1 in
    rw (two_units u v (leb-true 0xD800 u high.0) (leb-true 0xDC00 v low.0) (ltb-true v 0xE000 low.1)) refl

units_back : (us : List ℕ) → AreBelow (2 ^ 16) us → list_any no_char (utf16_chars us) ≡ false → units_of (utf16_chars us) ≡ us
unfolding utf16_chars
units_back [] fits whole = refl
units_back (u ∷ []) fits whole = (lone_back u [] (fits 0) whole).1
units_back (u ∷ v ∷ us) fits whole =
    by_test (is_high_surrogate u && is_low_surrogate v) refl (units_back us (λ i. fits (suc (suc i))))
    (units_back (v ∷ us) (λ i. fits (suc i))) whole
  where
    by_test : (t : Bool) → (is_high_surrogate u && is_low_surrogate v) ≡ t
        → (list_any no_char (utf16_chars us) ≡ false → units_of (utf16_chars us) ≡ us)
        → (list_any no_char (utf16_chars (v ∷ us)) ≡ false → units_of (utf16_chars (v ∷ us)) ≡ v ∷ us)
        → list_any no_char (if t then Some (surrogate_pair_char u v) ∷ utf16_chars us else lone_unit_char u ∷ utf16_chars (v ∷ us)) ≡ false
        → units_of (if t then Some (surrogate_pair_char u v) ∷ utf16_chars us else lone_unit_char u ∷ utf16_chars (v ∷ us)) ≡ u ∷ v ∷ us
    by_test true is far near whole = pair_back u v (utf16_chars us) is ∙ ap (λ xs. u ∷ v ∷ xs) (far whole)
    by_test false is far near whole =
        let lone = lone_back u (utf16_chars (v ∷ us)) (fits 0) whole in
        lone.1 ∙ ap (λ xs. u ∷ xs) (near lone.0)

-- the text that units spell
abbrev spelled : List ℕ → List ℕ
spelled us = encode_utf8_all (utf16_lossy_chars us)

one_text : (us vs : List ℕ) → AreBelow (2 ^ 16) us → AreBelow (2 ^ 16) vs → is_no_text us ≡ false → is_no_text vs ≡ false
    → spelled us ≡ spelled vs → us ≡ vs
one_text us vs fits others text more same =
    sym (units_back us fits (or_parts (has_zero us) (has_unpaired_surrogate us) text).1)
    ∙ ap (flat_map encode_utf16) (encodes_same (utf16_lossy_chars us) (utf16_lossy_chars vs) same)
    ∙ units_back vs others (or_parts (has_zero vs) (has_unpaired_surrogate vs) more).1

-- ## What stands under the two names that units may have.

abbrev text_in : List ℕ → Option Data
text_in us = if nat_eq (length us) 0 then None else (if is_no_text us then None else Some (string (spelled us)))

abbrev units_in : List ℕ → Option Data
units_in us = if nat_eq (length us) 0 then None else (if is_no_text us then Some (nums us) else None)

tells_text : (us : List ℕ) → Tells (codes "name") (units_fields us) (text_in us)
tells_text us = by_test (nat_eq (length us) 0) (is_no_text us) where
  by_test : (z t : Bool)
      → Tells (codes "name")
      (if z then [] else (if t then (codes "name_units", nums us) else (codes "name", string (spelled us))) ∷ [])
      (if z then None else (if t then None else Some (string (spelled us))))
  by_test true t = tells_none (codes "name") [] tt
  by_test false true = tells_none (codes "name") ((codes "name_units", nums us) ∷ []) (refl, tt)
  by_test false false = tells_here (codes "name") (string (spelled us)) [] tt

tells_units : (us : List ℕ) → Tells (codes "name_units") (units_fields us) (units_in us)
tells_units us = by_test (nat_eq (length us) 0) (is_no_text us) where
  by_test : (z t : Bool)
      → Tells (codes "name_units")
      (if z then [] else (if t then (codes "name_units", nums us) else (codes "name", string (spelled us))) ∷ [])
      (if z then None else (if t then Some (nums us) else None))
  by_test true t = tells_none (codes "name_units") [] tt
  by_test false true = tells_here (codes "name_units") (nums us) [] tt
  by_test false false = tells_none (codes "name_units") ((codes "name", string (spelled us)) ∷ []) (refl, tt)

one_units : (us vs : List ℕ) → AreBelow (2 ^ 16) us → AreBelow (2 ^ 16) vs → text_in us ≡ text_in vs → units_in us ≡ units_in vs → us ≡ vs
one_units us vs fits others text units =
    by_test (nat_eq (length us) 0) refl (is_no_text us) refl (nat_eq (length vs) 0) refl (is_no_text vs) refl text units
  where
    by_test : (z : Bool) → nat_eq (length us) 0 ≡ z → (t : Bool) → is_no_text us ≡ t → (w : Bool) → nat_eq (length vs) 0 ≡ w
        → (s : Bool) → is_no_text vs ≡ s
        → (if z then None else (if t then None else Some (string (spelled us))))
        ≡ (if w then None else (if s then None else Some (string (spelled vs))))
        → (if z then None else (if t then Some (nums us) else None)) ≡ (if w then None else (if s then Some (nums vs) else None)) → us ≡ vs
    by_test true z t is_t true w s is_s text units =
        nil_from_length us (eqb-true (length us) 0 z) ∙ sym (nil_from_length vs (eqb-true (length vs) 0 w))
    by_test true z t is_t false w true is_s text units = absurd (cc)
    by_test true z t is_t false w false is_s text units = absurd (cc)
    by_test false z true is_t true w s is_s text units = absurd (cc)
    by_test false z false is_t true w s is_s text units = absurd (cc)
    by_test false z true is_t false w true is_s text units = one_nums us vs (cc)
    by_test false z true is_t false w false is_s text units = absurd (cc)
    by_test false z false is_t false w true is_s text units = absurd (cc)
    by_test false z false is_t false w false is_s text units = one_text us vs fits others is_t is_s (cc)

-- ## Names, whose units end with zeros.

zeros : (us : List ℕ) → all_zero us ≡ true → us ≡ replicate (length us) 0
zeros [] all = refl
zeros (u ∷ us) all =
    let both = and_parts (nat_eq u 0) (all_zero us) all in
    ap₂ (λ x xs. x ∷ xs) (eqb-true u 0 both.0) (zeros us both.1)

padded : (us : List ℕ) → (k : ℕ) × (us ≡ trimmed us ++ replicate k 0)
unfolding trimmed
padded [] = (0, refl)
padded (u ∷ us) = by_test (all_zero (u ∷ us)) refl (padded us) where
  by_test : (t : Bool) → all_zero (u ∷ us) ≡ t → ((k : ℕ) × (us ≡ trimmed us ++ replicate k 0))
      → (k : ℕ) × (u ∷ us ≡ (if t then [] else u ∷ trimmed us) ++ replicate k 0)
  by_test true is rest = (length (u ∷ us), zeros (u ∷ us) is)
  by_test false is rest = (rest.0, ap (λ xs. u ∷ xs) rest.1)

below_trimmed : (us : List ℕ) → AreBelow (2 ^ 16) us → AreBelow (2 ^ 16) (trimmed us)
unfolding trimmed
below_trimmed [] fits = λ i. lit< tt
below_trimmed (u ∷ us) fits = by_test (all_zero (u ∷ us)) (below_trimmed us (λ i. fits (suc i))) where
  by_test : (t : Bool) → AreBelow (2 ^ 16) (trimmed us) → AreBelow (2 ^ 16) (if t then [] else u ∷ trimmed us)
  by_test true rest i = lit< tt
  by_test false rest zero = fits 0
  by_test false rest (suc i) = rest i

abbrev pub text_of : List ℕ → Option Data
text_of name = text_in (trimmed name)

abbrev pub numbers_of : List ℕ → Option Data
numbers_of name = units_in (trimmed name)

pub tells_name : (name : List ℕ) → Tells (codes "name") (name_fields name) (text_of name)
tells_name name = tells_text (trimmed name)

pub tells_name_units : (name : List ℕ) → Tells (codes "name_units") (name_fields name) (numbers_of name)
tells_name_units name = tells_units (trimmed name)

pub one_name : (us vs : List ℕ) → length us ≡ length vs → AreBelow (2 ^ 16) us → AreBelow (2 ^ 16) vs → text_of us ≡ text_of vs
    → numbers_of us ≡ numbers_of vs → us ≡ vs
one_name us vs long fits others text units =
    let same = one_units (trimmed us) (trimmed vs) (below_trimmed us fits) (below_trimmed vs others) text units in
    let first = padded us in
    let other = padded vs in
    let count : first.0 ≡ other.0 = omega (
      arith,
      long,
      ap length first.1,
      ap length other.1,
      ap length same,
      length-append (trimmed us) (replicate first.0 0),
      length-append (trimmed vs) (replicate other.0 0),
      length-replicate {A = ℕ} first.0 0,
      length-replicate {A = ℕ} other.0 0,
    ) in
    first.1 ∙ ap₂ (λ xs k. xs ++ replicate k 0) same count ∙ sym other.1
