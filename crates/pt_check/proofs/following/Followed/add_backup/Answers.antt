use Rattle.std.proofs.Common.{refl}
use Rattle.std.proofs.lemmas.Result.{err_from_is_err_and}
use Rattle.pt_gpt.specs.Copies.{SideReads}
use Rattle.pt_gpt.specs.declared.table.Side.TheVariants.{Backup}
use Rattle.pt_check.specs.inner.Following.{IsLostSide}
use Rattle.pt_check.proofs.Reading.{check_wider}
use Rattle.pt_check.proofs.following.Followed.add_backup.Goals as goal

pub returns-in_err-self-clause-place : goal.returns-in_err-self-clause-place
returns-in_err-self-clause-place g c = λ tells copies.
    let p = err_from_is_err_and c.from_residual.result c.from_residual.ensures.1 in
    let d = (g.D.Disk.told c.args.disk.now).seen in
    rw (p.1, p.2) (check_wider (SideReads g.row.B d Backup) (IsLostSide g.row.B d) c.in_err-self.field-0.0
    (λ s read. (c.if-not-has_lost.ensures d copies.primary refl, read)) (c.in_err-self.ensures.place tells))
