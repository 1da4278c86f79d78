use Rattle.std.proofs.Common.{◌≡◌, take}
use Rattle.pt_sum.specs.Sums.{after_bytes}
use Rattle.pt_sum.proofs.crc.after_few.Given as goal

abbrev pub invariant-loop-byte : goal.invariant-loop-byte
invariant-loop-byte l = l.sum ≡ after_bytes l.initial.sum (take l.byte-index l.byte-items)
