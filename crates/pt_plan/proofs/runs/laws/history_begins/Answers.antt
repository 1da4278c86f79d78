use Rattle.pt_recover.specs.Denotes.{Denotes}
use Rattle.pt_plan.specs.Batches.{ChangedBy}
use Rattle.pt_plan.proofs.RunsLemmas.{begins_lem}
use Rattle.pt_plan.proofs.runs.laws.history_begins.Goals as goal

pub returns : goal.returns
returns c = λ b n. begins_lem (Denotes b) (ChangedBy b n)
