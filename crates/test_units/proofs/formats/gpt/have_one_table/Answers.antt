use Rattle.std.proofs.Common.{sym, subst}
use Rattle.pt_sector.specs.Device.{Told}
use Rattle.pt_gpt.specs.Copies.{IsHead}
use Rattle.pt_gpt.specs.declared.table.Side.TheVariants.{Backup}
use Rattle.test_units.proofs.formats.gpt.have_one_table.Goals as goal

pub read_same-requires-clause-head : goal.read_same-requires-clause-head
read_same-requires-clause-head g c = λ tells.
    subst (λ (t : Told). IsHead 512 t.seen Backup c.in_ok-backup.backup) (sym (c.in_ok-backup.ensures.same.same tells))
    (c.in_ok-backup.ensures.ok tells)
