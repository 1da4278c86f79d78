use Rattle.std.proofs.Common.{◌≡◌, ◌-◌, ◌*◌, ◌/◌, ◌+◌, ◌++◌, ◌∙◌, ℕ, length, take, drop, min, sym, ap, arith, inl, inr}
use Rattle.std.proofs.lemmas.List.{length-take, length-drop}
use Rattle.std.proofs.lemmas.List.Edits.{split_between}
use Rattle.pt_sum.specs.Sums.{crc_of}
use Rattle.pt_sector.specs.Sectors.{IsSectorSize}
use Rattle.pt_follow.specs.inner.Follow.{range_of}
use Rattle.pt_follow.proofs.Splits.{sector_low}
use Rattle.pt_follow.proofs.sum.sum_with.Goals as goal

-- the entries behind a sector's part, in bytes
entries_behind : (b count k : ℕ) → IsSectorSize b
    → count * 128 - k * b - b ≡ 128 * ((count * 128 - k * b - min (count * 128 - k * b) b) / 128)
entries_behind b count k (inl e) = rw e (omega arith)
entries_behind b count k (inr e) = rw e (omega arith)

pub returns : goal.returns
returns g c x y long long_y sum before now =
    let b = g.row.B in
    let at = c.args.k * b in
    let left = c.args.count * 128 - at in
    let part = range_of b x c.args.k in
    let rest = drop (at + b) x in
    let within = sector_low b c.args.count c.args.k c.requires.size c.requires.within in
    let long_part : length part ≡ min left b = omega (arith, length-take (at + b - at) (drop at x), length-drop at x, long) in
    let same : length part ≡ length (take left y) = omega (arith, long_part, length-take left y, long_y) in
    let whole : x ≡ take at x ++ (part ++ rest) = split_between x at (at + b) (omega arith) in
    let long_rest : length rest ≡ left - b = omega (arith, length-drop (at + b) x, long) in
    let is : c.min.result ≡ min left b = c.min.ensures in
    let behind =
    long_rest ∙ entries_behind b c.args.count c.args.k c.requires.size ∙ ap (λ (n : ℕ). 128 * ((left - n) / 128)) (sym is) in
    c.sum_after_change.ensures (take at x) part (take left y) rest same behind (sum ∙ ap crc_of whole) before now
    ∙ ap (λ (n : ℕ). crc_of (take at x ++ (take (n - at) y ++ rest))) (sym long)
