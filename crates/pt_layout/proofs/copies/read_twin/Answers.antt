use Rattle.std.proofs.Common.{refl, subst}
use Rattle.std.proofs.lemmas.Result.{err_from_is_err_and}
use Rattle.pt_sector.specs.Device.{Told}
use Rattle.pt_gpt.specs.Copies.{FailedInCopy, SideReads, TellsFault, TellsSame}
use Rattle.pt_gpt.specs.declared.table.Side.TheVariants.{Backup}
use Rattle.pt_gpt.proofs.Heads.{fault_of_head}
use Rattle.pt_layout.proofs.copies.read_twin.Goals as goal

pub returns-in_err-header-clause-err : goal.returns-in_err-header-clause-err
returns-in_err-header-clause-err g c = λ tells.
    let p = err_from_is_err_and c.from_residual.result c.from_residual.ensures.1 in
    rw (p.1, p.2) (fault_of_head g.row.B (g.D.Disk.told c.args.disk.now).seen Backup c.in_err-header.field-0.0
    (c.in_err-header.ensures.err tells))

pub returns-in_err-same-clause-place : goal.returns-in_err-same-clause-place
returns-in_err-same-clause-place g c = λ tells.
    let p = err_from_is_err_and c.from_residual-in_err-same.result c.from_residual-in_err-same.ensures.1 in
    rw (p.1, p.2) (subst (λ (t : Told). FailedInCopy (SideReads g.row.B t.seen Backup) c.in_err-same.field-0.0)
    (c.in_ok-header.ensures.same.same tells) (c.in_err-same.ensures.place tells))

pub returns-in_err-same-clause-err : goal.returns-in_err-same-clause-err
returns-in_err-same-clause-err g c = λ tells.
    let p = err_from_is_err_and c.from_residual-in_err-same.result c.from_residual-in_err-same.ensures.1 in
    rw (p.1, p.2) (subst (λ (t : Told). TellsFault g.row.B t.seen Backup c.in_err-same.field-0.0)
    (c.in_ok-header.ensures.same.same tells) (c.in_err-same.ensures.err tells))

pub returns-clause-ok : goal.returns-clause-ok
returns-clause-ok g c = λ tells. (
  c.in_ok-header.header,
  refl,
  subst (λ (t : Told). TellsSame g.row.B t.seen Backup c.in_ok-header.header c.args.table.now c.in_ok-same.same)
      (c.in_ok-header.ensures.same.same tells) (c.in_ok-same.ensures.ok tells),
)
