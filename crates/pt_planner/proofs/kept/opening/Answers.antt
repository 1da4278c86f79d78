use Rattle.std.proofs.Common.{◌∙◌, sym, ap}
use Rattle.pt_sector.specs.Sectors.{sector}
use Rattle.pt_planner.proofs.Opening.{opens}
use Rattle.pt_planner.proofs.kept.opening.Goals as goal

pub returns-in_ok-read_sector-in-Some-clause-opening : goal.returns-in_ok-read_sector-in-Some-clause-opening
returns-in_ok-read_sector-in-Some-clause-opening g c = λ tells.
    let d = (g.D.Disk.told c.args.disk.now).seen in
    opens g.row.B c.sectors-sectors.result d c.args.survey.now.layout _ c.read_sector.new.into c.bridge.result c.in-Some.is
    (c.sectors-sectors.ensures ∙ sym (g.met.D.Disk.sized c.args.disk.now tells))
    (c.in_ok-read_sector-in-Some.ensures.bytes tells ∙ ap (sector d) c.header_at.ensures)
    c.bridge.ensures
