use Rattle.std.proofs.Common.{◌≡◌, ◌∙◌, length, ap, arith}
use Rattle.std.proofs.lemmas.List.{get_or_default}
use Rattle.std.specs.Prelude.{slice_index_or}
use Rattle.pt_sum.specs.Sums.{crc_of}
use Rattle.pt_gpt.specs.Copies.{array_place, bytes_from}
use Rattle.pt_follow.proofs.Sums.{sum_none, sum_more, fit_next, next_sector}
use Rattle.pt_follow.proofs.copy.FollowedCopy.sum_of_sectors.Goals as goal

pub loop-k-init : goal.loop-k-init
loop-k-init g c d side t f = sum_none d (array_place g.row.B side (length d))

pub loop-k-preserved : goal.loop-k-preserved
loop-k-preserved g c d side t f =
    let k = c.loop-k.k in
    let fit = fit_next g.row.B c.args.count c.args.self.now.known k c.requires.size c.loop-k-test.true c.requires.within in
    let low = (next_sector g.row.B c.args.self.now.known k c.requires.size fit).low in
    let here : c.index.result.now ≡ slice_index_or c.args.self.now.sums.items k 0 =
    c.index.ensures ∙ get_or_default c.args.self.now.sums.items k c.index.result.now 0 (omega (arith, f.parts, low)) in
    sum_more g.row.B d side t c.args.self.now k c.loop-k.sum c.sum_of_both-sum.result c.requires.size f fit
    (c.loop-k.invariant d side t f) (λ x y long sum part. c.sum_of_both-sum.ensures x y long sum (here ∙ part))

pub returns : goal.returns
returns g c d side t f =
    let end : c.loop-k.k ≡ c.args.count = omega arith in
    c.loop-k.invariant d side t f ∙ ap (λ n. crc_of (bytes_from d (array_place g.row.B side (length d)) n)) end
