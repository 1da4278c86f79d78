use Rattle.std.proofs.Common.{take}
use Rattle.pt_members.specs.inner.Tables.{Gains}
use Rattle.pt_members.specs.Members.{IsPlace}
use Rattle.pt_members.proofs.alone.push_places.Given as goal

abbrev pub invariant-loop-k : goal.invariant-loop-k
invariant-loop-k l = Gains (IsPlace (take l.k l.slices)) l.initial.sectors.items l.sectors.items
