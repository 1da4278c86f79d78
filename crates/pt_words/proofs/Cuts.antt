-- Fields, from where a text is cut.
use Rattle.std.proofs.Common.{◌≡◌, ◌≢◌, ◌<◌, ◌≤◌, ℕ, List, [], ◌∷◌, ◌++◌, length, Option, Some, None, refl, ◌∙◌, arith, lit<, Bor, IfNone}
use Rattle.std.proofs.Common.{IfSome, eqb, get_or, false, Ok, Err, ap}
use Rattle.std.specs.Option.{MatchOption}
use Rattle.std.specs.List.{join_with_byte, position_or_len, before_first, after_first}
use Rattle.std.proofs.lemmas.List.Splits.{join_with_byte-slice_split, slice_split_first, slice_split_none, length-slice_split}
use Rattle.std.proofs.lemmas.Str.Pattern.{IsSplitOnceResult, split_once_first, split_parts}
use Rattle.std.proofs.lemmas.Bool.{ne_eqb}
use Rattle.std.proofs.lemmas.List.Elements.{All-from_get_or}
use Rattle.pt_words.specs.Words.{fields, one_of, named_of, alone, word_of}
use Rattle.pt_words.specs.declared.word.Edit.{Edit}
use Rattle.pt_words.specs.declared.error.EditError.TheVariants.{FieldCount, UnknownLetter}

-- a text without a colon is one field
one_alone : (text : List ℕ) → ((i : ℕ) → i < length text → get_or text i 0 ≢ 58) → fields text ≡ text ∷ []
one_alone text none =
    slice_split_none (λ b. eqb b 58) text (All-from_get_or (λ x. eqb x 58 ≡ false) text 0
    (λ i within. ne_eqb (get_or text i 0) 58 (none i within)))

first_cases : (text : List ℕ) (r : Option (Bor (List ℕ) × Bor (List ℕ)))
    → MatchOption r (position_or_len (λ b. eqb b 58) text ≡ length text)
    (λ x. (position_or_len (λ b. eqb b 58) text < length text) × (x.0.now ≡ before_first (λ b. eqb b 58) text)
    × (x.1.now ≡ after_first (λ b. eqb b 58) text))
    → MatchOption r ((i : ℕ) → i < length text → get_or text i 0 ≢ 58)
    (λ x. (text ≡ x.0.now ++ 58 ∷ x.1.now) × ((i : ℕ) → i < length x.0.now → get_or x.0.now i 0 ≢ 58))
    → MatchOption r (fields text ≡ text ∷ []) (λ x. fields text ≡ x.0.now ∷ fields x.1.now)
first_cases text None h none = one_alone text none
first_cases text (Some x) h parts = slice_split_first (λ b. eqb b 58) text 0 h.0 ∙ (rw (h.1, h.2) refl)

pub cut_fields : (text : List ℕ) (r : Option (Bor (List ℕ) × Bor (List ℕ))) → IsSplitOnceResult 58 text r
    → MatchOption r (fields text ≡ text ∷ []) (λ x. fields text ≡ x.0.now ∷ fields x.1.now)
cut_fields text r h = first_cases text r (split_once_first 58 text r h (lit< tt)) (split_parts 58 text r h (lit< tt))

-- there is a field at least
pub some_field : (text : List ℕ) → 1 ≤ length (fields text)
some_field text = rw (length-slice_split (λ b. eqb b 58) text) (omega arith)

pub at_some : {A : Type 0} (r : Option A) (P : Type 0) (Q : A → Type 0) → MatchOption r P Q → IfSome r Q
at_some None P Q h = tt
at_some (Some x) P Q h = h

pub at_none : {A : Type 0} (r : Option A) (P : Type 0) (Q : A → Type 0) → MatchOption r P Q → IfNone r P
at_none None P Q h = h
at_none (Some x) P Q h = tt

-- behind a field there is another
pub two_at_least : (f text : List ℕ) → one_of (f ∷ fields text) ≡ Err FieldCount
two_at_least f text = by_parts (fields text) (some_field text) where
  by_parts : (fs : List (List ℕ)) → 1 ≤ length fs → one_of (f ∷ fs) ≡ Err FieldCount
  by_parts [] some = absurd (omega arith)
  by_parts (g ∷ fs) some = refl

-- and the text of those behind it
pub named_text : (f text : List ℕ) → named_of (f ∷ fields text) ≡ Ok (f, text)
named_text f text = by_parts (fields text) (some_field text) (join_with_byte-slice_split 58 text) where
  by_parts : (fs : List (List ℕ)) → 1 ≤ length fs → join_with_byte 58 fs ≡ text → named_of (f ∷ fs) ≡ Ok (f, text)
  by_parts [] some is = absurd (omega arith)
  by_parts (g ∷ fs) some is = ap (λ (name : List ℕ). Ok (f, name)) is

-- a letter with fields behind it isn't alone
pub not_alone : (w : Edit) (text : List ℕ) → alone w (fields text) ≡ Err FieldCount
unfolding alone
not_alone w text = by_parts (fields text) (some_field text) where
  by_parts : (fs : List (List ℕ)) → 1 ≤ length fs → alone w fs ≡ Err FieldCount
  by_parts [] some = absurd (omega arith)
  by_parts (g ∷ fs) some = refl

-- what isn't one byte is no letter
pub no_letter : (letter : List ℕ) (rest : List (List ℕ)) → ((byte : ℕ) → letter ≢ byte ∷ []) → word_of (letter ∷ rest) ≡ Err UnknownLetter
unfolding word_of
no_letter [] rest none = refl
no_letter (c ∷ []) rest none = absurd (none c refl)
no_letter (c ∷ d ∷ bytes) rest none = refl
