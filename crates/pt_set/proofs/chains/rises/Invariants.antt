use Rattle.std.proofs.Common.{◌≡◌, drop}
use Rattle.pt_set.specs.Chains.{rises}
use Rattle.pt_set.proofs.chains.rises.Given as goal

abbrev pub invariant-loop-k : goal.invariant-loop-k
invariant-loop-k l = rises l.first l.sectors ≡ rises l.last (drop l.k l.sectors)
