use Rattle.std.proofs.Common.{◌≡◌, drop}
use Rattle.pt_set.specs.Chains.{logical_in}
use Rattle.pt_set.proofs.chains.logical_in.Given as goal

abbrev pub invariant-loop-k : goal.invariant-loop-k
invariant-loop-k l = logical_in l.logicals l.sector ≡ logical_in (drop l.k l.logicals) l.sector
