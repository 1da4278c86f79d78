-- What the steps of a commit did, by what was wanted, and what that tells where another disk's layout is.
use Rattle.std.proofs.Common.{◌≡◌, ◌∙◌, ◌↔◌, ℕ, List, length, Some, Result, Ok, Err, inl, inr, refl, sym, subst}
use Rattle.std.proofs.lemmas.Bool.{cases_eq}
use Rattle.pt_sector.specs.Sectors.{Sectors, Writes}
use Rattle.pt_sector.specs.Device.{MayLeave, Told}
use Rattle.pt_recover.specs.Denotes.{Denotes}
use Rattle.pt_recover.proofs.Terms.{denotes_one_lem}
use Rattle.pt_members.specs.declared.layout.Layout.{Layout}
use Rattle.pt_cases.specs.declared.primary.Primary.{Primary as Choice}
use Rattle.pt_plan.specs.Layouts.{CommitsLayout, IsReadyFor, IsReadyLike, IsRefusalOf, NotLike}
use Rattle.pt_plan.specs.Wanted.{CommitsWanted, IsReadyOf, IsRefusedBy, as_repair}
use Rattle.pt_plan.specs.inner.Commits.{Written}
use Rattle.pt_plan.specs.declared.error.CommitError.{CommitError}
use Rattle.pt_plan.specs.declared.like_error.LikeError.{LikeError}
use Rattle.pt_plan.specs.declared.like_error.LikeError.TheVariants.{OtherSize, Disk}
use Rattle.pt_plan.specs.declared.wanted.Wanted.{Wanted}
use Rattle.pt_plan.specs.declared.wanted.Wanted.TheVariants as wanted
use Rattle.pt_plan.proofs.Mendable.{none_of_healthy}
use Rattle.pt_plan.proofs.Outcomes.{committed, repaired}

-- a commit of whatever is wanted
pub commits_wanted : (primary : Choice) (b n : ℕ) (w : Wanted) (result : Result Unit CommitError) (old new : Told)
    → MayLeave old old.seen → Written (IsReadyOf primary b n w) (IsRefusedBy primary b n w) result old new
    → CommitsWanted primary b n w result old new
commits_wanted primary b n (wanted.Edited edits guids) result old new seen written =
    committed _ _ _ _ _ _ _ _ _ _ (denotes_one_lem b) _ _ seen _ written
commits_wanted primary b n (wanted.Layout layout) result old new seen written =
    committed _ _ _ _ _ _ _ _ _ _ (denotes_one_lem b) _ _ seen _ written
commits_wanted primary b n wanted.Own result old new seen written =
    repaired _ _ _ _ _ _ _ _ (denotes_one_lem b) (none_of_healthy primary b) _ _ seen _ written (as_repair result) refl

-- ## The layout w of another disk e, where a disk of n sectors is to become like it.

-- a disk and another one, whose layout was read for it, have as many sectors
pub size_met : (w : Layout) (m s n : ℕ) (e : Sectors) → length e ≡ m
    → (let r : Result Layout LikeError = Ok w in r ≡ Err OtherSize) ↔ ¬ (m ≡ s) → s ≡ n → n ≡ length e
size_met w m s n e counted met same = elim (cases_eq m s) [
  | inl is ↦ sym (counted ∙ is ∙ same)
  | inr other ↦ absurd (let no = met.1 other in cc)
]

module _ (primary : Choice) (b n : ℕ) (e : Sectors) (w : Layout) (is : Denotes b e (Some w)) (sized : n ≡ length e) where
  pub ready_like : (d : Sectors) (phases : List Writes) → IsReadyFor primary b n w d phases → IsReadyLike primary b e d phases
  ready_like d phases ready = record {
    wanted = w;
    denotes = is;
    ready = subst (λ (m : ℕ). IsReadyFor primary b m w d phases) sized ready;
  }

  pub not_like : (d : Sectors) (error : CommitError) → IsRefusalOf primary b n w d error → NotLike primary b e d (Disk error)
  not_like d error refused = (w, is, subst (λ (m : ℕ). IsRefusalOf primary b m w d error) sized refused)

  pub commits_like : (result : Result Unit CommitError) (old new : Told) → MayLeave old old.seen
      → Written (IsReadyFor primary b n w) (IsRefusalOf primary b n w) result old new
      → (l : Layout) × Denotes b e (Some l) × CommitsLayout primary b (length e) l result old new
  commits_like result old new seen written = (
    w,
    is,
    subst (λ (m : ℕ). CommitsLayout primary b m w result old new) sized
        (committed _ _ _ _ _ _ _ _ _ _ (denotes_one_lem b) _ _ seen _ written),
  )
