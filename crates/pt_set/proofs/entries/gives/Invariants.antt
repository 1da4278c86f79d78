use Rattle.std.proofs.Common.{◌≡◌, drop}
use Rattle.pt_set.specs.Entries.{gives}
use Rattle.pt_set.proofs.entries.gives.Given as goal

abbrev pub invariant-loop-k : goal.invariant-loop-k
invariant-loop-k l = gives l.parts l.number ≡ gives (drop l.k l.parts) l.number
