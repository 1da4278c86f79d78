use Rattle.std.proofs.Common.{subst, Option, refl}
use Rattle.std.proofs.lemmas.Result.{err_from_is_err_and, IfErr-weaker}
use Rattle.pt_gpt.specs.Copies.{SideReads}
use Rattle.pt_gpt.specs.declared.table.Side.TheVariants.{Primary}
use Rattle.pt_members.specs.declared.layout.Layout.{Layout}
use Rattle.pt_recover.specs.Denotes.{Denotes, Reads}
use Rattle.pt_check.specs.Answers.{FailedInCheck}
use Rattle.pt_check.specs.inner.Following.{IsLostSide}
use Rattle.pt_check.proofs.Adding.{on_ok}
use Rattle.pt_check.proofs.Reading.{check_wider}
use Rattle.pt_check.proofs.ByCopies.{primary_read, lost_read, followed_of, followed_on}
use Rattle.pt_check.proofs.following.follow_on.Goals as goal

pub returns-in_err-followed-in-None-clause-place : goal.returns-in_err-followed-in-None-clause-place
returns-in_err-followed-in-None-clause-place g c = λ tells.
    let p = err_from_is_err_and c.from_residual.result c.from_residual.ensures.1 in
    let d = (g.D.Disk.told c.args.disk.now).seen in
    let denotes = subst (λ (o : Option Layout). Denotes g.row.B d o) c.in-Some.is (c.requires.denoted tells) in
    rw (p.1, p.2) (check_wider (SideReads g.row.B d Primary) (Reads g.row.B d) c.in_err-followed-in-None.field-0.0
    (primary_read g.row.B d c.in-Some.layout c.in-Gpt.table c.in-Gpt.is denotes) (c.in_err-followed-in-None.ensures.place tells))

pub returns-else-is_short-clause-place : goal.returns-else-is_short-clause-place
returns-else-is_short-clause-place g c = λ tells.
    let d = (g.D.Disk.told c.args.disk.now).seen in
    let denotes = subst (λ (o : Option Layout). Denotes g.row.B d o) c.in-Some.is (c.requires.denoted tells) in
    let here = followed_of g.row.B d c.args.layout.now c.args.followed.now c.in-Some.layout c.in-Gpt.table c.in-Some-followed.copies
    c.in-Some.is c.in-Gpt.is c.in-Some-followed.is (c.requires.followed tells) in
    IfErr-weaker c.add_backup.result (FailedInCheck (IsLostSide g.row.B d)) (FailedInCheck (Reads g.row.B d))
    (λ e is. check_wider (IsLostSide g.row.B d) (Reads g.row.B d) e
    (lost_read g.row.B d c.in-Some.layout c.in-Gpt.table c.in-Gpt.is denotes) is)
    (c.add_backup.ensures.place tells here.copies)

pub returns-else-is_short-clause-followed : goal.returns-else-is_short-clause-followed
returns-else-is_short-clause-followed g c = λ tells.
    let d = (g.D.Disk.told c.args.disk.now).seen in
    let here = followed_of g.row.B d c.args.layout.now c.args.followed.now c.in-Some.layout c.in-Gpt.table c.in-Some-followed.copies
    c.in-Some.is c.in-Gpt.is c.in-Some-followed.is (c.requires.followed tells) in
    on_ok c.add_backup.result _ _
    (λ copies. (
      c.in-Some.layout,
      c.in-Gpt.table,
      c.in-Some.is,
      followed_on g.row.B d d c.in-Some.layout c.in-Gpt.table
          c.in-Some-followed.copies c.add_backup.new.self refl here copies c.add_backup.ensures.deciding,
    ))
    (c.add_backup.ensures.ok tells here.copies)

pub returns-then-is_short-clause-place : goal.returns-then-is_short-clause-place
returns-then-is_short-clause-place g c = λ tells.
    let d = (g.D.Disk.told c.args.disk.now).seen in
    let denotes = subst (λ (o : Option Layout). Denotes g.row.B d o) c.in-Some.is (c.requires.denoted tells) in
    IfErr-weaker c.renew_primary.result (FailedInCheck (SideReads g.row.B d Primary)) (FailedInCheck (Reads g.row.B d))
    (λ e is. check_wider (SideReads g.row.B d Primary) (Reads g.row.B d) e
    (primary_read g.row.B d c.in-Some.layout c.in-Gpt.table c.in-Gpt.is denotes) is)
    (c.renew_primary.ensures.place tells)

pub returns-then-is_short-clause-followed : goal.returns-then-is_short-clause-followed
returns-then-is_short-clause-followed g c = λ tells.
    let d = (g.D.Disk.told c.args.disk.now).seen in
    let here = followed_of g.row.B d c.args.layout.now c.args.followed.now c.in-Some.layout c.in-Gpt.table c.in-Some-followed.copies
    c.in-Some.is c.in-Gpt.is c.in-Some-followed.is (c.requires.followed tells) in
    on_ok c.renew_primary.result _ _
    (λ copies. (
      c.in-Some.layout,
      c.in-Gpt.table,
      c.in-Some.is,
      followed_on g.row.B d d c.in-Some.layout c.in-Gpt.table
          c.in-Some-followed.copies c.renew_primary.new.self refl here copies c.renew_primary.ensures.deciding,
    ))
    (c.renew_primary.ensures.ok tells here.copies)
