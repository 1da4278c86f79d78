-- What a commit does: what private contracts cite.
use Rattle.std.specs.Prelude.{◌≡◌, ◌≢◌, ℕ, List, Option, Some, None, Result, Ok, Err, length}
use Rattle.pt_sector.specs.Sectors.{Sectors, Writes, after}
use Rattle.pt_apply.specs.Plans.{Safe, Settled, StoppedSomewhere, Reached, CallFailed}
use Rattle.pt_recover.specs.Denotes.{Denotes}
use Rattle.pt_recover.specs.declared.error.NoTable.{NoTable as NoTableValue}
use Rattle.pt_members.specs.declared.layout.Layout.{Layout}
use Rattle.pt_layout.specs.Healthy.{Healthy}
use Rattle.pt_layout.specs.declared.sound.finding.Finding.TheVariants as finding
use Rattle.pt_layout.specs.declared.survey.Survey.{Survey}
use Rattle.pt_words.specs.declared.error.Refusal.TheVariants as refusal
use Rattle.pt_members.specs.Tables.{OwnedOf, TableOf}
use Rattle.pt_check.specs.Answers.{Answers}
use Rattle.pt_check.specs.declared.answer.Answer.TheVariants.{No}
use Rattle.pt_cases.specs.NewMbr.{UnplannedBy}
use Rattle.pt_cases.specs.declared.primary.Primary.{Primary as Choice}
use Rattle.pt_plan.specs.Batches.{Words, EditedBy}
use Rattle.pt_plan.specs.declared.error.CommitError.{CommitError}
use Rattle.pt_plan.specs.declared.error.CommitError.TheVariants.{NoTable, Edit, Plan, Check, Device, Memory}
use Rattle.pt_sector.specs.Device.{Told, Flushed, FailedFlush, IsReadIn, LeavesOnly}
use Rattle.pt_sector.specs.declared.disk.Fault.{Fault}
use Rattle.pt_sector.specs.declared.disk.Fault.TheVariants.{Flush}
use Rattle.pt_plan.specs.Commits.{commit_fault_in}

-- ## What the steps of a commit answer.

-- a failure of the device or of memory
abbrev pub IsCommitFailure : CommitError → Type 0
IsCommitFailure (Device fault) = Unit {0}
IsCommitFailure Memory = Unit {0}
IsCommitFailure _ = ⊥

-- the number of sectors that a layout says; of nothing that of the disk
abbrev pub sectors_in : Option Layout → ℕ → ℕ
sectors_in None n = n
sectors_in (Some o) n = o.sectors

-- whether words may start from what a survey finds: from nothing only such as make a table may, and else the reason why there is nothing
-- is told
abbrev pub MayStart : Survey → Type 0 → Result Unit CommitError → Type 0
MayStart x makes (Ok u) = x.layout ≡ None → makes
MayStart x makes (Err e) = (makes → ⊥) × ((r : NoTableValue) × (x.finding ≡ Some (finding.NoTable r)) × (e ≡ NoTable r))

-- why the words make no layout
abbrev pub NotEdited : ℕ → ℕ → Option Layout → Words → CommitError → Type 0
NotEdited b n o batch (Edit r) = (r ≢ refusal.Memory) × EditedBy b n o batch (Err r)
NotEdited b n o batch Memory = Unit {0}
NotEdited b n o batch _ = ⊥

-- why there is no plan
abbrev pub NotPlanned : Choice → ℕ → Sectors → Layout → CommitError → Type 0
NotPlanned primary b d l (Plan e) = UnplannedBy primary b d l e
NotPlanned primary b d l e = IsCommitFailure e

-- the plan is safe
pub record IsSafe (b : ℕ) (d : Sectors) (phases : List Writes) : Type 0 where
  pub switch : ℕ
  pub safe : Safe (Denotes b) (Healthy b) (TableOf b) (OwnedOf b) phases d switch

-- why it isn't
abbrev pub NotSafe : ℕ → Sectors → List Writes → CommitError → Type 0
NotSafe b d phases (Check why) = Answers b d phases (No why)
NotSafe b d phases e = IsCommitFailure e

-- ## How a flush, a checked plan and its writes went, over which plans are ready for a disk and why there is none.

-- the fault that an error carries is a read's
abbrev pub MetRead : Option Fault → Type 0
MetRead (Some fault) = IsReadIn (λ s. Unit {0}) fault
MetRead None = Unit {0}

module _ (is_ready : Sectors → List Writes → Type 0) (is_refusal : Sectors → CommitError → Type 0) where
  -- the first flush was done, a plan was ready, and a crash since leaves what it could leave then, or a disk stopped in that plan
  pub record Begun (old new : Told) : Type 0 where
    pub mid : Told
    pub flushed : Flushed old mid
    pub phases : List Writes
    pub ready : is_ready mid.seen phases
    pub any_moment : LeavesOnly mid new (StoppedSomewhere phases mid.seen)

  -- the first flush failed; or it was done and nothing else, and why: at most reads failed; or a plan's call failed; or all of them
  -- were done
  pub data Written (result : Result Unit CommitError) (old new : Told) : Type 0 where
    unflushed : result ≡ Err (Device Flush) → FailedFlush old new → Written result old new
    unplanned : (e : CommitError) → result ≡ Err e → MetRead (commit_fault_in e) → Flushed old new → is_refusal new.seen e
        → Written result old new
    unapplied : (fault : Fault) → result ≡ Err (Device fault) → (run : Begun old new)
        → CallFailed run.phases run.mid.seen run.mid new fault → Written result old new
    applied : result ≡ Ok tt → (run : Begun old new) → Settled new (after run.phases run.mid.seen)
        → Reached run.phases run.mid.seen (length run.phases) 0 run.mid new → Written result old new
