use Rattle.pt_recover.specs.Denotes.{Denotes}
use Rattle.pt_plan.specs.Batches.{ChangedBy, CommitsAny, RepairsAny}
use Rattle.pt_plan.specs.Sessions.{Applies}
use Rattle.pt_plan.proofs.PlanCalls.{plan_carries_lem, plan_undone_lem}
use Rattle.pt_plan.proofs.RunsLemmas.{run_carries_lem}
use Rattle.pt_plan.proofs.runs.laws.run_carries.Goals as goal

pub returns : goal.returns
returns c =
    λ b n. run_carries_lem (Denotes b) (ChangedBy b n) (CommitsAny b n) (λ w r s t q. q.1.history) (RepairsAny b n) (λ r s t q. q.1.history)
    (Applies b) (plan_carries_lem b n) (plan_undone_lem b)
