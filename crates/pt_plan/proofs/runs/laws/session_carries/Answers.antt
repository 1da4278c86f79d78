use Rattle.std.proofs.Common.{map}
use Rattle.pt_recover.specs.Denotes.{Denotes}
use Rattle.pt_plan.specs.Batches.{ChangedBy, CommitsChange, by_words}
use Rattle.pt_plan.proofs.RunsLemmas.{session_carries_lem, session_map}
use Rattle.pt_plan.proofs.runs.laws.session_carries.Goals as goal

pub returns : goal.returns
returns c = λ primary b n ws rs old new did.
    session_carries_lem (Denotes b) (ChangedBy b n) (CommitsChange primary b n) (λ w r s t q. q.history) (map by_words ws) rs old new
    (session_map by_words (CommitsChange primary b n) ws rs old new did)
