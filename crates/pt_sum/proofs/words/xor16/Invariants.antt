use Rattle.std.proofs.Common.{◌≡◌, ◌*◌, drop, fold}
use Rattle.std.specs.Prelude.{bit_xor}
use Rattle.pt_sum.specs.Sums.{words, xor_of}
use Rattle.pt_sum.proofs.words.xor16.Given as goal

abbrev pub invariant-loop-i : goal.invariant-loop-i
invariant-loop-i l = fold bit_xor l.sum (words (drop (2 * l.i) l.bytes)) ≡ xor_of l.bytes
