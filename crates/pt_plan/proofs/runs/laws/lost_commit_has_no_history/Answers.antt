use Rattle.std.specs.Prelude.{◌≡◌, ◌⊎◌, ℕ, Option, Some, Ok, [], ◌∷◌}
use Rattle.std.proofs.Common.{◌∙◌, inl, inr}
use Rattle.pt_sector.specs.Sectors.{Sectors}
use Rattle.pt_members.specs.declared.layout.Layout.{Layout}
use Rattle.pt_recover.specs.Denotes.{Denotes}
use Rattle.pt_recover.proofs.Terms.{denotes_one_lem}
use Rattle.pt_plan.specs.Batches.{Change, ChangedBy}
use Rattle.pt_plan.specs.Commits.{Done, Unchanged, Has}
use Rattle.pt_plan.proofs.runs.laws.lost_commit_has_no_history.Goals as goal

refused : (b n : ℕ) (w : Change) (d : Sectors) (o : Option Layout) → Denotes b d o
    → ((l : Layout) → ChangedBy b n o w (Ok l) → o ≡ Some l → ⊥)
    → Has (Denotes b) (ChangedBy b n) o (Done w ∷ []) d ⊎ Has (Denotes b) (ChangedBy b n) o (Done w ∷ Unchanged ∷ []) d → ⊥
refused b n w d o is changes (inl (p, den, (m, (l, made, by), last))) =
    changes l by (denotes_one_lem b d o p is den ∙ last ∙ made)
refused b n w d o is changes (inr (p, den, (m, (l, made, by), (q, same, last)))) =
    changes l by (denotes_one_lem b d o p is den ∙ last ∙ same ∙ made)

pub returns : goal.returns
returns c = λ b n w disk o is changes has. refused b n w disk o is changes has
