use Rattle.std.specs.Prelude.{drop}
use Rattle.pt_mbr.specs.Chain.{StandsAt}
use Rattle.pt_recover.proofs.Traces.{Left}
use Rattle.pt_recover.proofs.extended.trace_chain.Given as goal

abbrev pub invariant-loop-k : goal.invariant-loop-k
invariant-loop-k l = Left l.fn.trace l.trace (λ s. StandsAt s l.list) (λ s. StandsAt s (drop l.k l.list))
