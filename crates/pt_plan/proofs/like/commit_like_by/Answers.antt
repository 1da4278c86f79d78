use Rattle.std.proofs.Common.{Ok, Err}
use Rattle.std.proofs.lemmas.Result.{err_from_is_err_and}
use Rattle.pt_plan.specs.Batches.{LayoutReads}
use Rattle.pt_plan.specs.Layouts.{LikeReads}
use Rattle.pt_plan.proofs.Committing.{commits_like, size_met}
use Rattle.pt_plan.proofs.Reading.{commit_wider}
use Rattle.pt_plan.proofs.like.commit_like_by.Goals as goal

pub returns-in_err-carry_out-clause-place : goal.returns-in_err-carry_out-clause-place
returns-in_err-carry_out-clause-place g c = λ tells other_tells.
    let p = err_from_is_err_and c.from_residual-in_err-carry_out.result c.from_residual-in_err-carry_out.ensures.1 in
    let d = (g.D.Disk.told c.args.disk.now).seen in
    rw (p.1, p.2) (commit_wider (LayoutReads c.args.primary g.row.B c.in_ok-wanted.wanted d)
    (LikeReads c.args.primary g.row.B (g.E.Disk.told c.args.other.now).seen d) c.in_err-carry_out.field-0.0
    (λ s reads. (c.in_ok-wanted.wanted, c.in_ok-wanted.ensures.ok other_tells, reads))
    (c.in_err-carry_out.ensures.place tells))

pub returns-clause-becomes : goal.returns-clause-becomes
returns-clause-becomes g c = λ tells other_tells.
    commits_like c.args.primary g.row.B _ _ c.in_ok-wanted.wanted (c.in_ok-wanted.ensures.ok other_tells)
    (size_met c.in_ok-wanted.wanted _ _ _ _ (g.met.E.Disk.sized c.args.other.now other_tells) c.in_ok-wanted.ensures.other_size
    c.sectors.ensures)
    (Ok tt) _ _ (g.met.D.Disk.may_be_seen _ tells) (c.in_ok-carry_out.ensures.written tells)

pub returns-in_err-carry_out-clause-becomes : goal.returns-in_err-carry_out-clause-becomes
returns-in_err-carry_out-clause-becomes g c = λ tells other_tells.
    let p = err_from_is_err_and c.from_residual-in_err-carry_out.result c.from_residual-in_err-carry_out.ensures.1 in
    rw (p.1, p.2) (commits_like c.args.primary g.row.B _ _ c.in_ok-wanted.wanted (c.in_ok-wanted.ensures.ok other_tells)
    (size_met c.in_ok-wanted.wanted _ _ _ _ (g.met.E.Disk.sized c.args.other.now other_tells) c.in_ok-wanted.ensures.other_size
    c.sectors.ensures)
    (Err c.in_err-carry_out.field-0.0) _ _ (g.met.D.Disk.may_be_seen _ tells) (c.in_err-carry_out.ensures.written tells))
