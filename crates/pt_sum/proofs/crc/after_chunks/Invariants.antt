use Rattle.std.proofs.Common.{◌≡◌, take}
use Rattle.std.specs.List.{concat}
use Rattle.pt_sum.specs.Sums.{after_bytes}
use Rattle.pt_sum.proofs.crc.after_chunks.Given as goal

abbrev pub invariant-loop-chunk : goal.invariant-loop-chunk
invariant-loop-chunk l = l.sum ≡ after_bytes l.register (concat (take l.chunk-index l.chunks))
