-- Bytes that are summed in parts.
use Rattle.std.specs.Prelude.{◌≡◌, ℕ, List, ◌++◌, fold}
use Rattle.std.specs.List.{flat_map}
use Rattle.std.proofs.Common.{ap, ◌∙◌}
use Rattle.std.proofs.lemmas.List.Sums.{fold-append}
use Rattle.std.proofs.lemmas.Grind.{flat_map-append}
use Rattle.pt_sum.specs.Sums.{bits, after_bit, after_bytes}

-- the register after two parts is that after the second, begun where the first ended
pub after_bytes-append : (register : ℕ) (xs ys : List ℕ) → after_bytes register (xs ++ ys) ≡ after_bytes (after_bytes register xs) ys
after_bytes-append register xs ys =
    ap (fold after_bit register) (flat_map-append (bits 8) xs ys)
    ∙ fold-append after_bit register (flat_map (bits 8) xs) (flat_map (bits 8) ys)
