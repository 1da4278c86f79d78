use Rattle.pt_bsd.proofs.ReadingLemmas.{ReadSoFar}
use Rattle.pt_bsd.proofs.decode.entries_in.Given as goal

abbrev pub invariant-loop-k : goal.invariant-loop-k
invariant-loop-k l = ReadSoFar l.entries l.k l.bytes
