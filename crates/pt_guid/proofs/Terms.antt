-- What the rearrangement, the texts and the codes keep.
use Rattle.std.specs.Prelude.{◌≡◌, ◌≢◌, ◌<◌, ℕ, List, [], ◌∷◌, length, map, replicate, slice_index, All, Option, Some}
use Rattle.std.proofs.Common.{refl, sym, ap, ◌∙◌, arith, inl, inr, lit<}
use Rattle.std.proofs.Math.ListN.{get_or-eq_default}
use Rattle.std.proofs.lemmas.Bool.{cases_lt}
use Rattle.std.specs.Option.{option_map, unwrap_or}
use Rattle.std.proofs.lemmas.List.Elements.{All-cons, All-nil}
use Rattle.uuid.specs.Text.{lower}
use Rattle.uuid.proofs.RoundTrips.{parses_hyphenated_text}
use Rattle.pt_guid.specs.Codes.{rows, type_of}
use Rattle.pt_guid.specs.Guids.{mixed, stored_of, text_of}
use Rattle.pt_guid.proofs.Rows.{one_code, no_zero, rows_apart}

-- sixteen bytes that are rearranged twice are as before
pub mixed_twice : (bytes : List ℕ) → length bytes ≡ 16 → mixed (mixed bytes) ≡ bytes
mixed_twice (a ∷ b ∷ c ∷ d ∷ e ∷ f ∷ g ∷ h ∷ i ∷ j ∷ k ∷ l ∷ m ∷ n ∷ o ∷ p ∷ []) len = refl
mixed_twice bytes len = absurd (omega arith)

-- a text stands for one GUID
pub one_value : (text a b : List ℕ) → stored_of text ≡ Some a → stored_of text ≡ Some b → a ≡ b
one_value text a b is_a is_b = ap (λ (o : Option (List ℕ)). unwrap_or o []) (sym is_a ∙ is_b)

abbrev pub IsByte : ℕ → Type 0
IsByte x = x < 256

all_at : (bytes places : List ℕ) → ((k : ℕ) → IsByte (slice_index bytes k)) → All IsByte (map (slice_index bytes) places)
all_at bytes [] each = All-nil IsByte
all_at bytes (k ∷ places) each = All-cons IsByte (slice_index bytes k) (map (slice_index bytes) places) (each k) (all_at bytes places each)

pub each_byte : (bytes : List ℕ) → All IsByte bytes → (k : ℕ) → IsByte (slice_index bytes k)
each_byte bytes all k =
    elim (cases_lt k (length bytes)) [
      | inl within ↦ all k 0 within
      | inr outside ↦ rw (get_or-eq_default bytes 0 outside) (lit< tt)
    ]

-- bytes stay bytes
all_bytes : (bytes : List ℕ) → All IsByte bytes → All IsByte (mixed bytes)
all_bytes bytes all =
    all_at bytes (3 ∷ 2 ∷ 1 ∷ 0 ∷ 5 ∷ 4 ∷ 7 ∷ 6 ∷ 8 ∷ 9 ∷ 10 ∷ 11 ∷ 12 ∷ 13 ∷ 14 ∷ 15 ∷ []) (each_byte bytes all)

-- the text of a GUID stands for it
pub text_reads_back : (stored : List ℕ) → length stored ≡ 16 → All (λ (x : ℕ). x < 256) stored → stored_of (text_of stored) ≡ Some stored
text_reads_back stored len all =
    ap (option_map mixed) (sym (parses_hyphenated_text lower (mixed stored) (inl refl) refl (all_bytes stored all)))
    ∙ ap (λ (x : List ℕ). Some x) (mixed_twice stored len)

-- no two codes stand for one type
pub codes_differ : (a b : ℕ) (stored : List ℕ) → type_of a ≡ Some stored → type_of b ≡ Some stored → a ≡ b
codes_differ = one_code rows rows_apart

-- no code stands for the type zero
pub types_are_used : (code : ℕ) → type_of code ≢ Some (replicate 16 0)
types_are_used = no_zero rows rows_apart
