use Rattle.pt_recover.proofs.Roles.{alike_equal, alike_says, unlike, whole_same}
use Rattle.pt_recover.proofs.alike.is_alike.Goals as goal

pub returns-then-same_front : goal.returns-then-same_front
returns-then-same_front g c = λ yes d count denotes there.
    alike_equal g.row.B d c.args.at.0 c.args.other.now c.args.standing.now
    (whole_same g.row.B c.args.other.now c.args.standing.now c.told-other c.told-standing
    (c.same_front.ensures.0 c.if-same_front.true)) there

pub returns : goal.returns
returns g c = λ yes d count denotes there.
    alike_says g.row.B d c.args.at.0 c.args.other.now c.args.standing.now (c.says_same.ensures yes) there
    (λ none counted. unlike c.may_be_counted.result c.if-may_be_counted.false (c.may_be_counted.ensures d count denotes none counted))
