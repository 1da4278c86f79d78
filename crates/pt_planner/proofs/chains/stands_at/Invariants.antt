use Rattle.std.proofs.Common.{drop}
use Rattle.pt_mbr.specs.Chain.{StandsAt}
use Rattle.pt_planner.proofs.chains.stands_at.Given as goal

-- none before stands there
abbrev pub invariant-loop-k : goal.invariant-loop-k
invariant-loop-k l = StandsAt l.at.0 l.chain → StandsAt l.at.0 (drop l.k l.chain)
