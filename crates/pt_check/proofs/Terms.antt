-- The law of answers, as a term that proofs above can cite.
use Rattle.std.specs.Prelude.{ℕ, List}
use Rattle.pt_sector.specs.Sectors.{Sectors, Writes, after}
use Rattle.pt_recover.specs.Denotes.{Denotes, Reads}
use Rattle.pt_recover.proofs.Terms.{denotes_one_lem}
use Rattle.pt_layout.specs.Healthy.{IsFinding}
use Rattle.pt_members.specs.Tables.{OwnedOf, TableOf}
use Rattle.pt_check.specs.Answers.{Answers, SameAnswer}
use Rattle.pt_check.proofs.OneLemmas.{answer_one}
use Rattle.pt_check.specs.declared.answer.Answer.{Answer}

-- one answer at most is right
pub answer_is_one_lem : (b : ℕ) (d : Sectors) (phases : List Writes) (a c : Answer) → Answers b d phases a → Answers b d phases c
    → SameAnswer (IsFinding b) (after phases d) a c
answer_is_one_lem b d phases a c = answer_one (Denotes b) (Reads b) (TableOf b) (OwnedOf b) (IsFinding b) (denotes_one_lem b) d phases a c
