use Rattle.std.proofs.Common.{◌∙◌, sym}
use Rattle.pt_gpt.specs.Copies.{SideReads}
use Rattle.pt_recover.proofs.Sides.{inside_adds}
use Rattle.pt_recover.proofs.Failed.{told_failed, inside_of}
use Rattle.pt_recover.proofs.tables.read_side.Goals as goal

pub returns-in-Some-clause-place : goal.returns-in-Some-clause-place
returns-in-Some-clause-place g c = λ tells.
    told_failed (SideReads g.row.B (g.D.Disk.told c.args.disk.now).seen c.args.side) c.in-Err.e c.in-Some.failure
    (sym c.failure.ensures ∙ c.in-Some.is) (c.in-Err.ensures.place tells)

pub returns-in-None-clause-traced : goal.returns-in-None-clause-traced
returns-in-None-clause-traced g c = λ tells.
    inside_adds (c.in-Err.ensures.traced_err tells) (inside_of c.in-Err.e (sym c.failure.ensures ∙ c.in-None.is))
