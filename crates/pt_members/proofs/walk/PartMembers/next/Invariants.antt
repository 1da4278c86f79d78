use Rattle.std.proofs.Common.{◌≡◌, ◌<◌, ◌^◌, ◌-◌, Some}
use Rattle.pt_members.specs.Members.{parts_in}
use Rattle.pt_members.proofs.RowPlaces.{left_from}
use Rattle.pt_members.proofs.walk.PartMembers.next.Given as goal

-- of what the walk holds: the label, the slice and the next entry
abbrev pub invariant-loop-self : goal.invariant-loop-self
invariant-loop-self l =
    let held = l.self-inside.1 in
    record {
      small : held.1.0.first < 2 ^ 66;
      left : left_from held.1.1.0 (parts_in (Some l.label) held.1.0) ≡ l.fn.self;
    }

abbrev pub decreases-loop-self : goal.decreases-loop-self
decreases-loop-self l = 8 - l.self-inside.1.1.1.0
