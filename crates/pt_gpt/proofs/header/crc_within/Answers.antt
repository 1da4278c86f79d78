use Rattle.std.proofs.Common.{◌++◌, ℕ, List, take, sym, ap, ◌∙◌, replicate}
use Rattle.std.specs.Prelude.{bit_xor, slice_range}
use Rattle.pt_sum.specs.Sums.{after_bytes}
use Rattle.pt_sum.proofs.Terms.{after_bytes-append}
use Rattle.pt_gpt.proofs.header.crc_within.Goals as goal

pub returns : goal.returns
returns c =
    let b = c.args.bytes.now in
    let zeros : List ℕ = replicate 4 0 in
    let rest = slice_range b 20 c.args.size in
    rw (c.value.ensures, c.update-3.ensures, c.update-2.ensures, c.update.ensures, c.new-sum.ensures)
    (ap (λ (r : ℕ). bit_xor r 0xFFFFFFFF) (sym (after_bytes-append 0xFFFFFFFF (take 16 b ++ zeros) rest
    ∙ ap (λ (r : ℕ). after_bytes r rest) (after_bytes-append 0xFFFFFFFF (take 16 b) zeros))))
