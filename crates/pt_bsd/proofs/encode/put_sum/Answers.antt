use Rattle.std.proofs.Common.{◌+◌, ◌*◌, arith}
use Rattle.pt_bsd.proofs.Parts.{put_changes}
use Rattle.pt_bsd.proofs.Sums.{summed}
use Rattle.pt_bsd.proofs.encode.put_sum.Goals as goal

pub returns-clause-sum : goal.returns-clause-sum
returns-clause-sum c =
    let end = 148 + 16 * c.args.count in
    rw c.put_u16.ensures.put (summed end c.xor16-sum.result c.args.bytes.now (omega arith)
    (omega (arith, c.requires.count, c.requires.long)) c.requires.none_yet c.put_u16.ensures.fits c.xor16-sum.ensures)

pub returns-clause-only : goal.returns-clause-only
returns-clause-only c = rw c.put_u16.ensures.put (put_changes 136 138 _ c.args.bytes.now (omega arith) (omega (arith, c.requires.long)))
