use Rattle.std.proofs.Common.{◌≡◌, take}
use Rattle.pt_set.specs.Places.{stated}
use Rattle.pt_set.proofs.places.stated.Given as goal

abbrev pub invariant-loop-k : goal.invariant-loop-k
invariant-loop-k g l = l.runs.items ≡ stated g.row.B (take l.k l.parts)
