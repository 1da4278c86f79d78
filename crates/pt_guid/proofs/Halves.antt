-- Sixteen bytes by their halves.
use Rattle.std.specs.Prelude.{◌≡◌, ◌++◌, ℕ, List, All, length, take, drop}
use Rattle.std.specs.Int.{w64, from_le_bytes}
use Rattle.std.proofs.Common.{rules, refl, sym, ap, ◌∙◌}
use Rattle.std.proofs.lemmas.List.{take-append-drop}
use Rattle.std.proofs.lemmas.List.Elements.{All-take, All-drop}
use Rattle.std.proofs.lemmas.Nat.{le_bytes_8}
use Rattle.pt_guid.proofs.Terms.{IsByte, each_byte}

-- eight bytes are those of their number
same_half : (x y : List ℕ) → length x ≡ 8 → length y ≡ 8 → All IsByte x → All IsByte y
    → from_le_bytes w64 x ≡ from_le_bytes w64 y → x ≡ y
same_half x y long_x long_y bytes_x bytes_y same =
    sym (le_bytes_8 x (from_le_bytes w64 x) long_x (each_byte x bytes_x) refl)
    ∙ le_bytes_8 y (from_le_bytes w64 x) long_y (each_byte y bytes_y) same

-- sixteen bytes with the same halves are the same
pub same_by_halves : (a b : List ℕ) → length a ≡ 16 → length b ≡ 16 → All IsByte a → All IsByte b
    → from_le_bytes w64 (take 8 a) ≡ from_le_bytes w64 (take 8 b)
    → from_le_bytes w64 (drop 8 a) ≡ from_le_bytes w64 (drop 8 b) → a ≡ b
same_by_halves a b long_a long_b bytes_a bytes_b same_first same_second =
    sym (take-append-drop 8 a) ∙ ap (λ x. x ++ drop 8 a) first ∙ ap (λ x. take 8 b ++ x) second ∙ take-append-drop 8 b
  where
    first : take 8 a ≡ take 8 b
    first = same_half (take 8 a) (take 8 b) (search rules) (search rules)
        (All-take IsByte 8 a bytes_a) (All-take IsByte 8 b bytes_b) same_first

    second : drop 8 a ≡ drop 8 b
    second = same_half (drop 8 a) (drop 8 b) (search rules) (search rules)
        (All-drop IsByte 8 a bytes_a) (All-drop IsByte 8 b bytes_b) same_second
