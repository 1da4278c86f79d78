use Rattle.std.proofs.Common.{◌≡◌, ◌++◌}
use Rattle.pt_members.specs.Members.{present, slots}
use Rattle.pt_members.proofs.LabelPlaces.{placed_among}
use Rattle.pt_members.proofs.slices.label_places.Given as goal

abbrev pub invariant-loop-member : goal.invariant-loop-member
invariant-loop-member g l = record {
  can_next : (goal.iterator-loop-member g).can_next l.member-iterator;
  is_finite : (goal.iterator-loop-member g).is_finite l.member-iterator;
  left : l.yielded ++ l.member-iterator ≡ present (slots g.row.B l.body);
  places : l.places.items ≡ placed_among l.sectors l.yielded;
}
