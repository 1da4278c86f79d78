use Rattle.std.proofs.Common.{◌∙◌, sym, subst}
use Rattle.pt_check.proofs.ByCopies.{copy_told}
use Rattle.pt_check.specs.Answers.{FailedInCheck}
use Rattle.pt_check.specs.declared.error.CheckError.{CheckError}
use Rattle.pt_gpt.specs.Copies.{SideReads}
use Rattle.pt_check.proofs.following.follow_side.Goals as goal

pub returns-in-Some-clause-place : goal.returns-in-Some-clause-place
returns-in-Some-clause-place g c = λ tells.
    let S = SideReads g.row.B (g.D.Disk.told c.args.disk.now).seen c.args.side in
    subst (λ (e : CheckError). FailedInCheck S e) (sym c.from.ensures)
    (copy_told S c.in-Err.error c.in-Some.failure (sym c.failure.ensures ∙ c.in-Some.is) (c.in-Err.ensures.place tells))
