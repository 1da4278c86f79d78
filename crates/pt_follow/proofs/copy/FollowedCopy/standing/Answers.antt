use Rattle.std.proofs.Common.{refl, ◌∙◌, arith}
use Rattle.pt_follow.proofs.Standings.{lost_head, lost_array, gives}
use Rattle.pt_follow.proofs.copy.FollowedCopy.standing.Goals as goal

pub returns-in-None : goal.returns-in-None
returns-in-None g c d side f = lost_head g.row.B d side c.args.table.now c.args.self.now f c.in-None.is

pub returns-then-header-sum_of_first : goal.returns-then-header-sum_of_first
returns-then-header-sum_of_first g c d side f =
    let t = c.args.table.now in
    lost_array g.row.B d side t c.args.self.now c.in-Some.header c.sum_of_first.result f c.in-Some.is (c.sum_of_first.ensures d side t f)
    c.if-header-sum_of_first.true

pub returns-then-are_set : goal.returns-then-are_set
returns-then-are_set g c d side f =
    let t = c.args.table.now in
    let are_known = rw (c.deref.ensures.value, c.counted_sectors.ensures.value) at c.if-are_set.ensures in
    gives g.row.B d side t c.args.self.now c.in-Some.header c.sum_of_first.result c.requires f c.in-Some.is
    (omega (arith, c.if-count-self.false)) (c.if-count-len.true ∙ c.len.ensures)
    (c.sum_of_first.ensures d side t f) c.if-header-sum_of_first.false (c.if-is_of.ensures refl)
    (are_known refl)
