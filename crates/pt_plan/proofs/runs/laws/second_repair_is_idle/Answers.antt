use Rattle.std.proofs.Common.{⊎_elim}
use Rattle.pt_plan.proofs.RunsLemmas.{only_flushes_lem}
use Rattle.pt_plan.proofs.runs.laws.second_repair_is_idle.Goals as goal

pub returns : goal.returns
returns c = λ b n words result old mid new done again. ⊎_elim
    (λ did. only_flushes_lem mid new did.1.ends.0 (again.1.idle did.1.ends.1))
    (λ did. only_flushes_lem mid new did.1.ends.0 (again.1.idle did.1.ends.1))
    done
