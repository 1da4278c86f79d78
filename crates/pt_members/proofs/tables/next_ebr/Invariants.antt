use Rattle.std.proofs.Common.{take}
use Rattle.pt_mbr.specs.Chain.{StandsAt}
use Rattle.pt_members.specs.Tables.{NextSectorIs}
use Rattle.pt_members.proofs.tables.next_ebr.Given as goal

abbrev pub invariant-loop-k : goal.invariant-loop-k
invariant-loop-k l = NextSectorIs (λ s. StandsAt s (take l.k l.chain)) l.from l.next
