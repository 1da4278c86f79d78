use Rattle.std.proofs.Common.{◌∙◌, sym, arith}
use Rattle.pt_members.proofs.RowPlaces.{members_end}
use Rattle.pt_members.proofs.walk.BodyMembersIterator.next.Goals as goal

pub returns-clause-steps : goal.returns-clause-steps
returns-clause-steps g c =
    let left = c.loop-self.self-inside in
    let none = members_end g.row.B left.body.now left.k (omega (arith, c.loop-self-test.false, c.slot_count.ensures)) in
    ((sym c.loop-self.invariant.left ∙ none, none), tt)
