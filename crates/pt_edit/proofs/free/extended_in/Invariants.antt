use Rattle.std.proofs.Common.{◌≡◌, ◌+◌, drop}
use Rattle.pt_edit.specs.Free.{extended_from}
use Rattle.pt_edit.proofs.free.extended_in.Given as goal

abbrev pub invariant-loop-k : goal.invariant-loop-k
invariant-loop-k l = extended_from 1 l.records ≡ extended_from (l.k + 1) (drop l.k l.records)
