use Rattle.std.proofs.Common.{rules}
use Rattle.pt_layout.proofs.OwnPlaces.{buried_least}
use Rattle.pt_layout.proofs.sound.faults.fault_of.Goals as goal

pub returns-in-Some : goal.returns-in-Some
returns-in-Some g c =
    buried_least g.row.B c.args.layout.now c.args.fault c.args.group.now c.args.m.now c.in-Some.lba c.in-Buried.is (search rules)
    c.in-Some.ensures
