use Rattle.pt_recover.proofs.Terms.{denotes_one_lem}
use Rattle.pt_plan.proofs.Outcomes.{committed}
use Rattle.pt_plan.proofs.commits.commit.Goals as goal

pub returns-clause-commits : goal.returns-clause-commits
returns-clause-commits g c = λ tells.
    committed _ _ _ _ _ _ _ _ _ _ (denotes_one_lem g.row.B) _ _ (g.met.D.Disk.may_be_seen _ tells) _ (c.carry_out.ensures.written tells)
