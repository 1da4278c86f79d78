use Rattle.std.proofs.Common.{◌/◌, length, ◌∙◌}
use Rattle.pt_sum.proofs.Chunks.{chunks_and_rest}
use Rattle.pt_sum.proofs.crc.after.Goals as goal

pub returns : goal.returns
returns c =
    let bytes = c.args.bytes.now in
    let cut = c.as_chunks.ensures in
    c.after_few.ensures
    ∙ rw (cut.back, c.after_chunks.ensures, cut.front) (chunks_and_rest c.args.register 16 (length bytes / 16) bytes)
