use Rattle.std.proofs.Common.{◌≡◌, ◌≤◌, ◌-◌, length}
use Rattle.pt_members.specs.Members.{number_at, rows, slots}
use Rattle.pt_members.proofs.RowPlaces.{left_from}
use Rattle.pt_members.proofs.walk.BodyRowsIterator.next.Given as goal

abbrev pub invariant-loop-self : goal.invariant-loop-self
invariant-loop-self g l = record {
  within : l.self-inside.k ≤ length (slots g.row.B l.self-inside.body.now);
  number : l.self-inside.number ≡ number_at l.self-inside.body.now l.self-inside.k;
  left : left_from l.self-inside.k (rows g.row.B l.self-inside.body.now) ≡ l.fn.self;
}

abbrev pub decreases-loop-self : goal.decreases-loop-self
decreases-loop-self g l = length (slots g.row.B l.self-inside.body.now) - l.self-inside.k
