use Rattle.std.proofs.Common.{subst}
use Rattle.pt_recover.specs.Denotes.{FailedInDisk, Reads}
use Rattle.pt_recover.specs.declared.error.NoTable.{NoTable}
use Rattle.pt_replay.proofs.set.known.Goals as goal

pub returns-in-Err-Device-clause-place : goal.returns-in-Err-Device-clause-place
returns-in-Err-Device-clause-place g c = λ tells.
    subst (λ (e : NoTable). FailedInDisk (Reads g.row.B (g.D.Disk.told c.args.disk.now).seen) e) c.in-Err-Device.field-0-is
    (c.in-Err-Device.ensures.place tells)
