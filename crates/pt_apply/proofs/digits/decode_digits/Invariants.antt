use Rattle.pt_apply.proofs.Pairs.{Decoded}
use Rattle.pt_apply.proofs.digits.decode_digits.Given as goal

abbrev pub invariant-loop-k : goal.invariant-loop-k
invariant-loop-k l = Decoded l.digits l.bytes l.k l.worst
