use Rattle.std.proofs.Common.{◌≡◌}
use Rattle.pt_members.specs.Members.{entries_as}
use Rattle.pt_members.proofs.LabelPlaces.{placed_before}
use Rattle.pt_members.proofs.slices.entry_places.Given as goal

abbrev pub invariant-loop-k : goal.invariant-loop-k
invariant-loop-k g l = l.places.items ≡ placed_before l.sectors (entries_as g.row.B 1 l.entries) l.k
