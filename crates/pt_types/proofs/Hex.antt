-- Numbers with zeros in front.
use Rattle.std.proofs.Common.{◌≡◌, ℕ, ◌-◌, ◌^◌, [], ◌++◌, length, ap, ◌∙◌, arith, append-nil}
use Rattle.std.specs.Prelude.{true, false, replicate}
use Rattle.std.specs.Fmt.{digits, padded_integral, format_spec, char_count}
use Rattle.pt_types.specs.Listing.{hex}

pub hex_padded : (count n : ℕ) → padded_integral (format_spec 32 0 4 count (2 ^ 64 - 1)) false [] (digits 16 true n) ≡ hex count n
unfolding padded_integral char_count
hex_padded count n =
    let len = length (digits 16 true n) in
    let less : count - len - 0 - 0 ≡ count - len = omega arith in
    ap (λ z. replicate z 48 ++ (digits 16 true n ++ [])) less
    ∙ ap (λ ds. replicate (count - len) 48 ++ ds) (append-nil (digits 16 true n))
