use Rattle.pt_recover.specs.Denotes.{Denotes}
use Rattle.pt_plan.specs.Batches.{ChangedBy}
use Rattle.pt_plan.proofs.RunsLemmas.{begins_again_lem}
use Rattle.pt_plan.proofs.runs.laws.crash_begins_again.Goals as goal

pub returns : goal.returns
returns c = λ b n. begins_again_lem (Denotes b) (ChangedBy b n)
