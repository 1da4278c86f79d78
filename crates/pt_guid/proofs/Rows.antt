-- A table of codes has each code, each type once, and not the type zero.
use Rattle.std.specs.Prelude.{◌≡◌, ◌≢◌, ◌<◌, ℕ, Bool, true, false, List, [], ◌∷◌, length, get_or, replicate, nat_eq, if◌then◌else◌, Some}
use Rattle.std.specs.Prelude.{◌||◌}
use Rattle.std.specs.Str.{bytes_eq}
use Rattle.std.proofs.Common.{zero, suc, refl, sym, ◌∙◌, arith}
use Rattle.std.proofs.lemmas.Bool.{true≢false, eqb-true, eq-eqb, or_parts}
use Rattle.std.proofs.lemmas.Slice.Eq.{bytes_eq-Decides}
use Rattle.pt_guid.specs.Codes.{type_in, rows}
use Rattle.pt_guid.specs.declared.guid.Guid.{Guid}

abbrev zeros : List ℕ
zeros = replicate 16 0

-- no row has this code or this type
abbrev lacks : List (ℕ × Guid) → ℕ × Guid → Bool
lacks [] x = true
lacks (r ∷ rs) x = if nat_eq x.0 r.0 || bytes_eq x.1.0 r.1.0 then false else lacks rs x

-- rows with types that aren't zero, no two of them with one code or one type
abbrev are_apart : List (ℕ × Guid) → Bool
are_apart [] = true
are_apart (r ∷ rs) = if bytes_eq r.1.0 zeros then false else (if lacks rs r then are_apart rs else false)

same_type : (x y : List ℕ) → Some x ≡ Some y → x ≡ y
same_type x y same = cc

same_bytes : (x y : List ℕ) → x ≡ y → bytes_eq x y ≡ true
same_bytes x y same = (bytes_eq-Decides x y).1 same

-- what a row says of one that has neither its code nor its type
record Apart (r : ℕ × Guid) (rs : List (ℕ × Guid)) : Type 0 where
  used : bytes_eq r.1.0 zeros ≡ false
  alone : lacks rs r ≡ true
  rest : are_apart rs ≡ true

apart_parts : (r : ℕ × Guid) (rs : List (ℕ × Guid)) → are_apart (r ∷ rs) ≡ true → Apart r rs
apart_parts r rs apart = by_tests (bytes_eq r.1.0 zeros) (lacks rs r) refl refl where
  by_tests : (p q : Bool) → bytes_eq r.1.0 zeros ≡ p → lacks rs r ≡ q → Apart r rs
  by_tests true q is has = absurd (true≢false (sym apart ∙ rw is refl))
  by_tests false true is has = record { used = is; alone = has; rest = sym (rw is (rw has refl)) ∙ apart }
  by_tests false false is has = absurd (true≢false (sym apart ∙ rw is (rw has refl)))

record Lacking (x r : ℕ × Guid) (rs : List (ℕ × Guid)) : Type 0 where
  code : nat_eq x.0 r.0 ≡ false
  type : bytes_eq x.1.0 r.1.0 ≡ false
  rest : lacks rs x ≡ true

lacking_parts : (x r : ℕ × Guid) (rs : List (ℕ × Guid)) → lacks (r ∷ rs) x ≡ true → Lacking x r rs
lacking_parts x r rs lacking = by_test (nat_eq x.0 r.0 || bytes_eq x.1.0 r.1.0) refl where
  by_test : (p : Bool) → (nat_eq x.0 r.0 || bytes_eq x.1.0 r.1.0) ≡ p → Lacking x r rs
  by_test true is = absurd (true≢false (sym lacking ∙ rw is refl))
  by_test false is =
      let parts = or_parts (nat_eq x.0 r.0) (bytes_eq x.1.0 r.1.0) is in
      record { code = parts.0; type = parts.1; rest = sym (rw is refl) ∙ lacking }

-- a code is that of the first row, or of a later one
type_here : (r : ℕ × Guid) (rs : List (ℕ × Guid)) (code : ℕ) → nat_eq code r.0 ≡ true → type_in (r ∷ rs) code ≡ Some r.1.0
type_here r rs code is = rw is refl

type_later : (r : ℕ × Guid) (rs : List (ℕ × Guid)) (code : ℕ) → nat_eq code r.0 ≡ false → type_in (r ∷ rs) code ≡ type_in rs code
type_later r rs code is = rw is refl

-- none has the type of a row that is lacking
lacked : (x : ℕ × Guid) (rs : List (ℕ × Guid)) (code : ℕ) → lacks rs x ≡ true → type_in rs code ≢ Some x.1.0
lacked x [] code lacking is = absurd cc
lacked x (r ∷ rs) code lacking is =
    let parts = lacking_parts x r rs lacking in
    by_code parts (λ later. lacked x rs code parts.rest later) (nat_eq code r.0) refl where
      by_code : Lacking x r rs → (type_in rs code ≢ Some x.1.0) → (p : Bool) → nat_eq code r.0 ≡ p → ⊥
      by_code parts rest true here =
          let same : r.1.0 ≡ x.1.0 = same_type r.1.0 x.1.0 (sym (type_here r rs code here) ∙ is) in
          true≢false (sym (same_bytes x.1.0 r.1.0 (sym same)) ∙ parts.type)
      by_code parts rest false other = rest (sym (type_later r rs code other) ∙ is)

-- no two codes have one type
pub one_code : (rs : List (ℕ × Guid)) → are_apart rs ≡ true → (a b : ℕ) (stored : List ℕ) → type_in rs a ≡ Some stored
    → type_in rs b ≡ Some stored → a ≡ b
one_code [] apart a b stored is_a is_b = absurd cc
one_code (r ∷ rs) apart a b stored is_a is_b =
    let parts = apart_parts r rs apart in
    by_codes parts (one_code rs parts.rest a b stored) (nat_eq a r.0) (nat_eq b r.0) refl refl where
      not_later : Apart r rs → (x y : ℕ) → nat_eq x r.0 ≡ true → nat_eq y r.0 ≡ false → type_in (r ∷ rs) x ≡ Some stored
          → type_in (r ∷ rs) y ≡ Some stored → ⊥
      not_later parts x y here other is_x is_y =
          lacked r rs y parts.alone (sym (type_later r rs y other) ∙ is_y ∙ sym is_x ∙ type_here r rs x here)

      by_codes : Apart r rs → (type_in rs a ≡ Some stored → type_in rs b ≡ Some stored → a ≡ b)
          → (p q : Bool) → nat_eq a r.0 ≡ p → nat_eq b r.0 ≡ q → a ≡ b
      by_codes parts rest true true c d = eqb-true a r.0 c ∙ sym (eqb-true b r.0 d)
      by_codes parts rest true false c d = absurd (not_later parts a b c d is_a is_b)
      by_codes parts rest false true c d = absurd (not_later parts b a d c is_b is_a)
      by_codes parts rest false false c d = rest (sym (type_later r rs a c) ∙ is_a) (sym (type_later r rs b d) ∙ is_b)

-- no type is zero
pub no_zero : (rs : List (ℕ × Guid)) → are_apart rs ≡ true → (code : ℕ) → type_in rs code ≢ Some zeros
no_zero [] apart code is = absurd cc
no_zero (r ∷ rs) apart code is =
    let parts = apart_parts r rs apart in
    by_code parts (no_zero rs parts.rest code) (nat_eq code r.0) refl where
      by_code : Apart r rs → (type_in rs code ≢ Some zeros) → (p : Bool) → nat_eq code r.0 ≡ p → ⊥
      by_code parts rest true here =
          let same : r.1.0 ≡ zeros = same_type r.1.0 zeros (sym (type_here r rs code here) ∙ is) in
          true≢false (sym (same_bytes r.1.0 zeros same) ∙ parts.used)
      by_code parts rest false other = rest (sym (type_later r rs code other) ∙ is)

-- each row holds
lacks_code : (x : ℕ × Guid) (rs : List (ℕ × Guid)) (k : ℕ) (d : ℕ × Guid) → k < length rs → lacks rs x ≡ true
    → nat_eq (get_or rs k d).0 x.0 ≡ false
lacks_code x [] k d lt lacking = absurd (omega arith)
lacks_code x (r ∷ rs) zero d lt lacking = turned (nat_eq r.0 x.0) refl where
  turned : (p : Bool) → nat_eq r.0 x.0 ≡ p → nat_eq r.0 x.0 ≡ false
  turned true is = absurd (true≢false (sym (eq-eqb x.0 r.0 (sym (eqb-true r.0 x.0 is))) ∙ (lacking_parts x r rs lacking).code))
  turned false is = is
lacks_code x (r ∷ rs) (suc k) d lt lacking = lacks_code x rs k d (omega (arith, lt)) (lacking_parts x r rs lacking).rest

pub row_holds : (rs : List (ℕ × Guid)) → are_apart rs ≡ true → (k : ℕ) (d : ℕ × Guid) → k < length rs
    → type_in rs (get_or rs k d).0 ≡ Some (get_or rs k d).1.0
row_holds [] apart k d lt = absurd (omega arith)
row_holds (r ∷ rs) apart zero d lt = type_here r rs r.0 (eq-eqb r.0 r.0 refl)
row_holds (r ∷ rs) apart (suc k) d lt =
    let parts = apart_parts r rs apart in
    type_later r rs (get_or rs k d).0 (lacks_code r rs k d (omega (arith, lt)) parts.alone)
    ∙ row_holds rs parts.rest k d (omega (arith, lt))

-- the table's are apart
pub rows_apart : are_apart rows ≡ true
rows_apart = refl
