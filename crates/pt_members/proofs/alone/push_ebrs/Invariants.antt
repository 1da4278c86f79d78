use Rattle.std.proofs.Common.{take}
use Rattle.pt_mbr.specs.Chain.{StandsAt}
use Rattle.pt_members.specs.inner.Tables.{Gains}
use Rattle.pt_members.proofs.alone.push_ebrs.Given as goal

abbrev pub invariant-loop-k : goal.invariant-loop-k
invariant-loop-k l = Gains (λ s. StandsAt s (take l.k l.chain)) l.initial.sectors.items l.sectors.items
