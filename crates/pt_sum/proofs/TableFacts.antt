-- What the tables have at each byte.
use Rattle.std.proofs.Common.{◌≡◌, ℕ, ◌+◌, ◌*◌, ◌/◌, ◌%◌, ◌^◌, ◌<◌, List, [], get_or, refl, sym, ap, ◌∙◌, arith}
use Rattle.std.specs.Prelude.{bit_xor, bit_and, map, fold}
use Rattle.std.specs.List.{range_with_len}
use Rattle.std.proofs.lemmas.List.FromFn.{get_or-map-range_with_len}
use Rattle.std.proofs.lemmas.Nat.{xor_shr, and_mask}
use Rattle.std.specs.Int.Bits.{xor_zero_r}
use Rattle.pt_sum.specs.Sums.{bits, shifted, after_bit}
use Rattle.pt_sum.specs.inner.Sums.{moved}
use Rattle.pt_sum.proofs.Linear.{moved_split, byte_at_once}
use Rattle.pt_sum.specs.declared.tables.TheConstants.{TABLES}

pub after_byte_by_entry : (register byte : ℕ) → byte < 256
    → bit_xor (moved 8 (bit_and (bit_xor register byte) 255)) (register / 256) ≡ fold after_bit register (bits 8 byte)
after_byte_by_entry register byte small =
    let low : bit_and (bit_xor register byte) 255 ≡ bit_xor register byte % 2 ^ 8 = and_mask (bit_xor register byte) 8 in
    let none : byte / 2 ^ 8 ≡ 0 = omega arith in
    let high : bit_xor register byte / 2 ^ 8 ≡ register / 256 = xor_shr register byte 8 ∙ rw none (xor_zero_r (register / 2 ^ 8)) in
    rw low (ap (bit_xor (moved 8 (bit_xor register byte % 2 ^ 8))) (sym high) ∙ sym (moved_split 8 (bit_xor register byte))
    ∙ sym (byte_at_once register byte small))

pub tables_are : TABLES ≡ map (λ k. map (moved (8 * k + 8)) (range_with_len 0 256)) (range_with_len 0 8)
unfolding moved shifted
tables_are = refl

abbrev rows : List (List ℕ) → ℕ → ℕ → ℕ
rows t k x = get_or (get_or t k []) x 0

pub entry_at_is : (k x : ℕ) → k < 8 → x < 256 → get_or (get_or TABLES k []) x 0 ≡ moved (8 * k + 8) x
entry_at_is k x below small =
    ap (λ (t : List (List ℕ)). rows t k x) tables_are
    ∙ ap (λ (t : List ℕ). get_or t x 0) (get_or-map-range_with_len
    (λ (j : ℕ). map (moved (8 * j + 8)) (range_with_len 0 256)) 0 8 k k [] below (omega arith))
    ∙ get_or-map-range_with_len (moved (8 * k + 8)) 0 256 x x 0 small (omega arith)
