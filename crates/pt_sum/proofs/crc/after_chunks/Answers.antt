use Rattle.std.proofs.Common.{[], get_or, ◌∙◌}
use Rattle.pt_sum.proofs.Chunks.{two_parts, chunk_more}
use Rattle.pt_sum.proofs.crc.after_chunks.Goals as goal

pub loop-chunk-preserved : goal.loop-chunk-preserved
loop-chunk-preserved c =
    let chunk = get_or c.args.chunks.now c.loop-chunk.chunk-index [] in
    c.after_eight-sum.ensures
    ∙ rw (c.after_eight.ensures, c.split_at.ensures.front, c.split_at.ensures.back, two_parts c.loop-chunk.sum 8 chunk)
    (rw c.loop-chunk.invariant (chunk_more c.args.register c.args.chunks.now c.loop-chunk.chunk-index c.loop-chunk-test.true))
