-- Bytes, GUIDs, types and names that are written as one text are equal.
use Rattle.std.proofs.Common.{◌≡◌, ◌∙◌, ◌<◌, ◌/◌, ◌%◌, ◌^◌, ℕ, zero, suc, List, [], ◌∷◌, map}
use Rattle.std.proofs.Common.{All, Bool, true, false, Some, refl, sym, ap, inr, lit<, unwrap_or}
use Rattle.std.specs.Prelude.{if◌then◌else◌, slice_index, nat_eq, option_map}
use Rattle.std.specs.Result.{result_unwrap_or}
use Rattle.std.proofs.lemmas.Bool.{eqb-true}
use Rattle.std.proofs.lemmas.List.Elements.{All-cons, All-nil}
use Rattle.hex.specs.Hex.{decode_of, encode_lower, encode_with, lower_digits}
use Rattle.hex.proofs.HexLemmas.{decode_of-encode_lower}
use Rattle.uuid.specs.Text.{parsed_hyphenated, upper}
use Rattle.uuid.proofs.RoundTrips.{parses_hyphenated_text}
use Rattle.pt_guid.specs.Guids.{mixed}
use Rattle.pt_guid.specs.declared.guid.Guid.{Guid}
use Rattle.pt_guid.proofs.Terms.{mixed_twice}
use Rattle.pt_tables.specs.Entries.{guid_text}
use Rattle.pt_tables.specs.Records.{kind_text, without_zero}
use Rattle.pt_tables.specs.Shown.{AreBytes, GuidWidth}

-- ## Bytes as hexadecimal digits.

pub one_bytes : (xs ys : List ℕ) → AreBytes xs → AreBytes ys → encode_lower xs ≡ encode_lower ys → xs ≡ ys
one_bytes xs ys fits others same =
    ap (λ r. result_unwrap_or r []) (sym (decode_of-encode_lower xs fits) ∙ ap decode_of same ∙ decode_of-encode_lower ys others)

-- ## The type of a record: two digits, without a zero in front.

one_byte : (k : ℕ) → k < 2 ^ 8 → AreBytes (k ∷ [])
one_byte k fits zero = fits
one_byte k fits (suc i) = lit< tt

-- two digits that are the same without a zero in front are the same
same_digits : (a b c d : ℕ) → without_zero (a ∷ b ∷ []) ≡ without_zero (c ∷ d ∷ []) → a ∷ b ∷ [] ≡ c ∷ d ∷ []
same_digits a b c d same = by_first (nat_eq a 48) refl (nat_eq c 48) refl same where
  by_first : (p : Bool) → nat_eq a 48 ≡ p → (q : Bool) → nat_eq c 48 ≡ q
      → (if p then b ∷ [] else a ∷ b ∷ []) ≡ (if q then d ∷ [] else c ∷ d ∷ []) → a ∷ b ∷ [] ≡ c ∷ d ∷ []
  by_first true is true so same =
      let first : a ≡ c = eqb-true a 48 is ∙ sym (eqb-true c 48 so) in
      let last : b ≡ d = cc in
      rw (first, last) refl
  by_first true is false so same = absurd (cc)
  by_first false is true so same = absurd (cc)
  by_first false is false so same = same

pub one_kind : (k j : ℕ) → k < 2 ^ 8 → j < 2 ^ 8 → kind_text k ≡ kind_text j → k ≡ j
unfolding encode_with
one_kind k j fits other same =
    let digits = same_digits (slice_index lower_digits (k / 16)) (slice_index lower_digits (k % 16)) (slice_index lower_digits (j / 16))
    (slice_index lower_digits (j % 16)) same in
    let both : k ∷ [] ≡ j ∷ [] = one_bytes (k ∷ []) (j ∷ []) (one_byte k fits) (one_byte j other) digits in
    cc

-- ## GUIDs.

abbrev IsByte : ℕ → Type 0
IsByte x = x < 256

all_at : (bytes places : List ℕ) → AreBytes bytes → All IsByte (map (slice_index bytes) places)
all_at bytes [] each = All-nil IsByte
all_at bytes (k ∷ places) each = All-cons IsByte (slice_index bytes k) (map (slice_index bytes) places) (each k) (all_at bytes places each)

all_mixed : (bytes : List ℕ) → AreBytes bytes → All IsByte (mixed bytes)
all_mixed bytes each =
    all_at bytes (3 ∷ 2 ∷ 1 ∷ 0 ∷ 5 ∷ 4 ∷ 7 ∷ 6 ∷ 8 ∷ 9 ∷ 10 ∷ 11 ∷ 12 ∷ 13 ∷ 14 ∷ 15 ∷ []) each

reads_back : (g : Guid) → GuidWidth g → Some g.0 ≡ option_map mixed (parsed_hyphenated (guid_text g))
reads_back g fits =
    ap Some (sym (mixed_twice g.0 fits.0))
    ∙ ap (option_map mixed) (parses_hyphenated_text upper (mixed g.0) (inr refl) refl (all_mixed g.0 fits.1))

pub one_guid : (g h : Guid) → GuidWidth g → GuidWidth h → guid_text g ≡ guid_text h → g ≡ h
one_guid g h fits other same =
    let bytes : g.0 ≡ h.0 =
    ap (λ o. unwrap_or o []) (reads_back g fits ∙ ap (λ t. option_map mixed (parsed_hyphenated t)) same ∙ sym (reads_back h other)) in
    ap (λ (b : List ℕ). record { 0 = b }) bytes
