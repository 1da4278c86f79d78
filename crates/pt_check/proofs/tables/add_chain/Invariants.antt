use Rattle.std.proofs.Common.{take}
use Rattle.pt_mbr.specs.Chain.{StandsAt}
use Rattle.pt_recover.specs.Spans.{Adds}
use Rattle.pt_check.proofs.tables.add_chain.Given as goal

abbrev pub invariant-loop-k : goal.invariant-loop-k
invariant-loop-k l = Adds l.initial.tables l.tables (λ s. StandsAt s (take l.k l.chain))
