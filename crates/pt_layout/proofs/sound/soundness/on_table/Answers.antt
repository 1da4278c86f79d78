use Rattle.std.proofs.Common.{List, Some, None, subst}
use Rattle.pt_layout.specs.declared.sound.faults.Fault.TheVariants.{Buried}
use Rattle.pt_members.specs.Members.{Group}
use Rattle.pt_layout.specs.inner.Sound.{LeastIs, FaultAmong}
use Rattle.pt_layout.proofs.Faulty.{off_all, buried_first}
use Rattle.pt_layout.proofs.sound.soundness.on_table.Goals as goal

pub returns-in-Some : goal.returns-in-Some
returns-in-Some g c =
    buried_first g.row.B c.args.layout.now c.in-Some.spot c.requires.inside
    (subst (λ (l : List Group). LeastIs (FaultAmong g.row.B c.args.layout.now Buried l)
    (Some c.in-Some.spot)) c.requires.all c.in-Some.ensures)

pub returns-in-None : goal.returns-in-None
returns-in-None g c =
    off_all g.row.B c.args.layout.now c.requires.inside (subst
    (λ (l : List Group). LeastIs (FaultAmong g.row.B c.args.layout.now Buried l) None) c.requires.all c.in-None.ensures)
