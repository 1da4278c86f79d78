use Rattle.pt_plan.proofs.Committing.{commits_wanted}
use Rattle.pt_plan.proofs.writing.commit_wanted.Goals as goal

pub returns-clause-commits : goal.returns-clause-commits
returns-clause-commits g c = λ tells.
    commits_wanted c.args.primary g.row.B _ c.args.wanted.now _ _ _ (g.met.D.Disk.may_be_seen _ tells) (c.carry_out.ensures.written tells)
