use Rattle.std.proofs.Common.{◌∙◌, ◌*◌, ◌/◌, List, ℕ, ap}
use Rattle.std.specs.Prelude.{slice_range}
use Rattle.pt_sum.specs.Sums.{crc_of}
use Rattle.pt_follow.proofs.Sums.{sum_first}
use Rattle.pt_follow.proofs.copy.FollowedCopy.sum_of_first.Goals as goal

pub returns : goal.returns
returns g c d side t f =
    let b = g.row.B in
    let size = c.args.count * 128 in
    let rest = c.crc32.ensures ∙ ap (λ (x : List ℕ). crc_of (slice_range x (size / b * b) size)) c.deref.ensures.value in
    sum_first b d side t c.args.self.now c.args.count c.sum_of_sectors-sum.result c.sum_of_both.result c.requires.size f c.requires.within
    (c.sum_of_sectors-sum.ensures d side t f) (λ x y long sum part. c.sum_of_both.ensures x y long sum (rest ∙ part))
