use Rattle.pt_members.specs.Members.{entries_as, IsPlace}
use Rattle.pt_members.specs.Tables.{NextSectorIs}
use Rattle.pt_members.proofs.LabelPlaces.{placed_before}
use Rattle.pt_members.proofs.tables.next_of_entries.Given as goal

abbrev pub invariant-loop-k : goal.invariant-loop-k
invariant-loop-k g l = NextSectorIs (IsPlace (placed_before l.sectors (entries_as g.row.B 1 l.entries) l.k)) l.from l.next
