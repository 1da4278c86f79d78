use Rattle.std.proofs.Common.{◌≡◌, ◌+◌, drop}
use Rattle.pt_set.specs.Entries.{lowest}
use Rattle.pt_set.proofs.entries.lowest.Given as goal

abbrev pub invariant-loop-k : goal.invariant-loop-k
invariant-loop-k l = lowest l.parts 1 l.entries ≡ lowest l.parts (l.k + 1) (drop l.k l.entries)
