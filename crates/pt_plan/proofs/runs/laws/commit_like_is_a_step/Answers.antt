use Rattle.std.specs.Prelude.{◌⊎◌, ℕ, [], ◌∷◌, Some, Result, Ok, Err, length}
use Rattle.std.proofs.Common.{inl, inr, refl}
use Rattle.pt_sector.specs.Sectors.{Sectors}
use Rattle.pt_sector.specs.Device.{Told}
use Rattle.pt_recover.specs.Denotes.{Denotes}
use Rattle.pt_members.specs.declared.layout.Layout.{Layout}
use Rattle.pt_cases.specs.declared.primary.Primary.{Primary as Choice}
use Rattle.pt_plan.specs.Batches.{to_layout}
use Rattle.pt_plan.specs.Layouts.{BecomesLike}
use Rattle.pt_plan.specs.Sessions.{RunOf, a_commit, nothing}
use Rattle.pt_plan.specs.declared.error.CommitError.{CommitError}
use Rattle.pt_plan.specs.declared.like_error.LikeError.{LikeError}
use Rattle.pt_plan.specs.declared.like_error.LikeError.TheVariants.{OtherSize, Other, Disk}
use Rattle.pt_plan.proofs.runs.laws.commit_like_is_a_step.Goals as goal

step : (primary : Choice) (b : ℕ) (e : Sectors) (result : Result Unit LikeError) (old new : Told) → BecomesLike primary b e result old new
    → RunOf b (length e) (nothing ∷ []) old new
    ⊎ ((l : Layout) × (told : Result Unit CommitError) × Denotes b e (Some l)
    × RunOf b (length e) (a_commit (to_layout l) told ∷ []) old new)
step primary b e (Ok x) old new (l, is, did) = inr (l, Ok x, is, (new, (primary, did), refl))
step primary b e (Err OtherSize) old new (why_not, same) = inl (new, same, refl)
step primary b e (Err (Other why)) old new (why_not, same) = inl (new, same, refl)
step primary b e (Err (Disk error)) old new (l, is, did) = inr (l, Err error, is, (new, (primary, did), refl))

pub returns : goal.returns
returns c = step
