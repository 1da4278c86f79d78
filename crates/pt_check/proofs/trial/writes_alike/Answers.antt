use Rattle.std.proofs.Common.{sym, ◌∙◌}
use Rattle.pt_check.proofs.trial.writes_alike.Goals as goal

pub returns-clause-alike : goal.returns-clause-alike
returns-clause-alike g c = λ tells yes.
    c.is_alike.ensures yes (g.D.Disk.told c.args.disk.now).seen (g.met.D.Disk.sized c.args.disk.now tells ∙ sym c.sectors-sectors.ensures)
    (c.requires.denoted tells) (sym (c.in_ok-read_sector.ensures.bytes tells))
