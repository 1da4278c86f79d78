use Rattle.std.proofs.Common.{List, Some, None, subst}
use Rattle.pt_layout.specs.declared.sound.faults.Fault.TheVariants.{Outside}
use Rattle.pt_members.specs.Members.{Group}
use Rattle.pt_layout.specs.inner.Sound.{LeastIs, FaultAmong}
use Rattle.pt_layout.proofs.Faulty.{inside_all, outside_first}
use Rattle.pt_layout.proofs.sound.soundness.outside_usable.Goals as goal

pub returns-in-Some : goal.returns-in-Some
returns-in-Some g c =
    outside_first g.row.B c.args.layout.now c.in-Some.spot (subst
    (λ (l : List Group). LeastIs (FaultAmong g.row.B c.args.layout.now Outside l) (Some c.in-Some.spot)) c.requires.all c.in-Some.ensures)

pub returns-in-None : goal.returns-in-None
returns-in-None g c =
    inside_all g.row.B c.args.layout.now (subst (λ (l : List Group). LeastIs
    (FaultAmong g.row.B c.args.layout.now Outside l) None) c.requires.all c.in-None.ensures)
