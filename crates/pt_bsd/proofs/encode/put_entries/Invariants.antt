use Rattle.pt_bsd.specs.inner.Labels.{PutSoFar}
use Rattle.pt_bsd.proofs.encode.put_entries.Given as goal

abbrev pub invariant-loop-k : goal.invariant-loop-k
invariant-loop-k l = PutSoFar l.entries l.k l.initial.bytes l.bytes
