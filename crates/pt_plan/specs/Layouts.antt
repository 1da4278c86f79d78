-- Plans and commits of a layout, or of another disk's layout.
use Rattle.std.specs.Prelude.{◌≡◌, ℕ, List, Option, Result, Ok, length, Some, None, Err}
use Rattle.pt_sector.specs.Sectors.{Sectors, Writes, after}
use Rattle.pt_sector.specs.Device.{Told}
use Rattle.pt_recover.specs.Denotes.{Denotes, TellsNothing, FailedInDisk, fault_in}
use Rattle.pt_members.specs.declared.layout.Layout.{Layout}
use Rattle.pt_cases.specs.Kept.{IsPlanBy}
use Rattle.pt_cases.specs.declared.primary.Primary.{Primary as Choice}
use Rattle.pt_plan.specs.Commits.{turn_by, Lands, commit_fault_in, HidesNoFailure}
use Rattle.pt_plan.specs.declared.error.CommitError.{CommitError}
use Rattle.pt_sector.specs.declared.disk.Fault.{Fault}
use Rattle.pt_planner.specs.PlanReads.{MakeReadsBy}
use Rattle.pt_plan.specs.Batches.{FailedInCommit, LayoutReads, CommitsChange, IsReadyChange, IsRefusedChange, to_layout}
use Rattle.pt_plan.specs.declared.like_error.LikeError.{LikeError}
use Rattle.pt_plan.specs.declared.like_error.LikeError.TheVariants.{OtherSize, Other, Disk}
use Rattle.pt_check.specs.Answers.{Answers, Promises}
use Rattle.pt_check.specs.declared.answer.Answer.TheVariants.{No, Yes}
use Rattle.pt_plan.specs.declared.checked.After.{After}
use Rattle.pt_plan.specs.declared.checked.After.TheVariants as outcome

-- ## Commits of a layout. It is a commit of the change to that layout.

-- a commit of the layout to a disk of n sectors of b bytes
abbrev pub CommitsLayout : Choice → ℕ → ℕ → Layout → Result Unit CommitError → Told → Told → Type 0
CommitsLayout primary b n wanted = CommitsChange primary b n (to_layout wanted)

-- a checked plan for the layout
abbrev pub IsReadyFor : Choice → ℕ → ℕ → Layout → Sectors → List Writes → Type 0
IsReadyFor primary b n wanted = IsReadyChange primary b n (to_layout wanted)

-- why there is none
abbrev pub IsRefusalOf : Choice → ℕ → ℕ → Layout → Sectors → CommitError → Type 0
IsRefusalOf primary b n wanted = IsRefusedChange primary b n (to_layout wanted)

-- a plan for the layout, from what the disk denotes: the checker accepts it, with the switch of its kind, and the disk is healthy after
-- it, with that layout
pub record IsAccepted (primary : Choice) (b : ℕ) (wanted : Layout) (d : Sectors) (phases : List Writes) : Type 0 where
  pub old : Option Layout
  pub from : Denotes b d old
  pub planned : IsPlanBy primary b d wanted phases
  pub lands : Lands b d old wanted phases (turn_by primary b d wanted phases planned)

-- ## What a call tells that makes a disk like another one. Of the sectors, d are the disk's and e the other one's.

abbrev pub like_error_number : LikeError → ℕ
like_error_number OtherSize = 1
like_error_number (Other why) = 2
like_error_number (Disk error) = 3

-- the fault of the disk, and of the other one, that an error carries
abbrev pub fault_in_disk : LikeError → Option Fault
fault_in_disk OtherSize = None
fault_in_disk (Other why) = None
fault_in_disk (Disk error) = commit_fault_in error

abbrev pub fault_in_other : LikeError → Option Fault
fault_in_other OtherSize = None
fault_in_other (Other why) = fault_in why
fault_in_other (Disk error) = None

-- neither a fault of the disk nor lack of memory is reported within another error
abbrev pub LikeHidesNoFailure : LikeError → Type 0
LikeHidesNoFailure OtherSize = Unit {0}
LikeHidesNoFailure (Other why) = Unit {0}
LikeHidesNoFailure (Disk error) = HidesNoFailure error

-- the sector whose read failed is one of these: of the disk, and of the other one
abbrev pub FailedInLike : (ℕ → Type 0) → LikeError → Type 0
FailedInLike S OtherSize = Unit {0}
FailedInLike S (Other why) = Unit {0}
FailedInLike S (Disk error) = FailedInCommit S error

abbrev pub FailedInOther : (ℕ → Type 0) → LikeError → Type 0
FailedInOther S OtherSize = Unit {0}
FailedInOther S (Other why) = FailedInDisk S why
FailedInOther S (Disk error) = Unit {0}

-- the sectors of the disk that a plan for the other one's layout reads, and those that a commit of that layout reads
abbrev pub LikePlanReads : Choice → ℕ → Sectors → Sectors → ℕ → Type 0
LikePlanReads primary b e d s = (wanted : Layout) × Denotes b e (Some wanted) × MakeReadsBy primary b d wanted s

abbrev pub LikeReads : Choice → ℕ → Sectors → Sectors → ℕ → Type 0
LikeReads primary b e d s = (wanted : Layout) × Denotes b e (Some wanted) × LayoutReads primary b wanted d s

-- an error of the other disk comes before anything is asked of the disk, and another size before anything is asked of either
abbrev pub LeftAlone : {D E : Type 0} → D → D → E → E → LikeError → Type 0
LeftAlone old new other now_other OtherSize = (new ≡ old) × (now_other ≡ other)
LeftAlone old new other now_other (Other why) = new ≡ old
LeftAlone old new other now_other (Disk error) = Unit {0}

-- a plan of d for the layout that e denotes
pub record IsLikePlan (primary : Choice) (b : ℕ) (e d : Sectors) (phases : List Writes) : Type 0 where
  pub wanted : Layout
  pub denotes : Denotes b e (Some wanted)
  pub accepted : IsAccepted primary b wanted d phases

-- a checked one
pub record IsReadyLike (primary : Choice) (b : ℕ) (e d : Sectors) (phases : List Writes) : Type 0 where
  pub wanted : Layout
  pub denotes : Denotes b e (Some wanted)
  pub ready : IsReadyFor primary b (length e) wanted d phases

-- why there is none
abbrev pub NotLike : Choice → ℕ → Sectors → Sectors → LikeError → Type 0
NotLike primary b e d OtherSize = ¬ (length e ≡ length d)
NotLike primary b e d (Other why) = TellsNothing b e why
NotLike primary b e d (Disk error) = (wanted : Layout) × Denotes b e (Some wanted) × IsRefusalOf primary b (length e) wanted d error

-- a commit of the layout that e denotes, of a disk that has as many sectors; where there is none, or the other disk has another size,
-- the disk is as before
abbrev pub BecomesLike : Choice → ℕ → Sectors → Result Unit LikeError → Told → Told → Type 0
BecomesLike primary b e (Ok x) old new =
    (wanted : Layout) × Denotes b e (Some wanted) × CommitsLayout primary b (length e) wanted (Ok x) old new
BecomesLike primary b e (Err (Disk error)) old new =
    (wanted : Layout) × Denotes b e (Some wanted) × CommitsLayout primary b (length e) wanted (Err error) old new
BecomesLike primary b e (Err error) old new = NotLike primary b e old.seen error × (new ≡ old)

-- ## What a plan makes of a disk d with sectors of b bytes.

-- the checker answers yes, and with all of the plan's writes done the disk denotes this layout
pub record LeavesLayout (b : ℕ) (d : Sectors) (phases : List Writes) (layout : Layout) : Type 0 where
  pub switch : ℕ
  pub yes : Answers b d phases (Yes switch)
  pub safe : Promises b d phases (Yes switch)
  pub denotes : Denotes b (after phases d) (Some layout)

-- the layout that the plan makes; or the reason with which the checker answers no
abbrev pub AfterIs : ℕ → Sectors → List Writes → After → Type 0
AfterIs b d phases (outcome.Layout layout) = LeavesLayout b d phases layout
AfterIs b d phases (outcome.No why) = Answers b d phases (No why)
