use Rattle.pt_members.proofs.Homes.{place_found, no_place}
use Rattle.pt_members.proofs.places.locate.Goals as goal

pub returns-in-Some-clause-some : goal.returns-in-Some-clause-some
returns-in-Some-clause-some g c =
    place_found g.row.B c.args.layout.now c.args.path.now c.args.k c.in-Some.m c.in-Some.ensures.0 c.in-Some.ensures.1

pub returns-in-None-clause-none : goal.returns-in-None-clause-none
returns-in-None-clause-none g c = λ s. no_place g.row.B c.args.layout.now c.args.path.now c.args.k s c.in-None.ensures
