use Rattle.std.proofs.Common.{◌≡◌, ◌-◌, ◌*◌, ◌∙◌, ℕ, length, take, min, sym, ap, arith}
use Rattle.std.proofs.lemmas.List.{take_min}
use Rattle.pt_sum.specs.Sums.{crc_of}
use Rattle.pt_follow.proofs.sum.part_sum.Goals as goal

pub returns : goal.returns
returns g c =
    let y = c.args.bytes.now in
    let left = c.args.count * 128 - c.args.k * g.row.B in
    let long : length y ≡ g.row.B = omega arith in
    let cut : take c.min.result y ≡ take left y =
    ap (λ (n : ℕ). take n y) (c.min.ensures ∙ ap (λ (n : ℕ). min left n) (sym long)) ∙ take_min left y in
    c.crc32.ensures ∙ ap crc_of cut
