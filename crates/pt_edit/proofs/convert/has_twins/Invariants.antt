use Rattle.std.proofs.Common.{◌≡◌, drop}
use Rattle.pt_edit.specs.Converted.{has_twins}
use Rattle.pt_edit.proofs.convert.has_twins.Given as goal

abbrev pub invariant-loop-k : goal.invariant-loop-k
invariant-loop-k l = has_twins (drop l.k l.guids) ≡ has_twins l.guids
