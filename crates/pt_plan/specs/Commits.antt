-- What a commit does.
use Rattle.std.specs.Prelude.{◌≡◌, ◌⊎◌, List, [], ◌∷◌, ◌++◌, Option, Some, Result, Ok, ℕ, None, Err, ◌≢◌}
use Rattle.pt_sector.specs.Sectors.{Sectors, Writes, after, sector, IsAscending}
use Rattle.pt_sector.specs.Device.{Told, MayLeave, LeavesOnly, Flushed, FailedFlush}
use Rattle.pt_sector.specs.declared.disk.Fault.{Fault}
use Rattle.pt_sector.specs.declared.disk.Fault.TheVariants.{Read, Write, Flush}
use Rattle.pt_apply.specs.Plans.{Settled, CallFailed, Keeps, Safe, StoppedSomewhere}
use Rattle.pt_recover.specs.declared.error.NoTable.{NoTable as NoTableValue}
use Rattle.pt_members.specs.declared.layout.Layout.{Layout}
use Rattle.pt_words.specs.declared.error.Refusal.{Refusal}
use Rattle.pt_cases.specs.declared.targets.error.PlanError.{PlanError}
use Rattle.pt_plan.specs.declared.error.CommitError.{CommitError}
use Rattle.pt_plan.specs.declared.error.CommitError.TheVariants.{NoTable, Edit, Plan, Check, Device, Memory}
use Rattle.std.proofs.Common.{length, ◌≤◌, ◌+◌, inl, inr}
use Rattle.pt_cases.specs.Kept.{IsPlanBy, KeptOf}
use Rattle.pt_cases.specs.declared.primary.Primary.{Primary as Choice}
use Rattle.pt_cases.specs.declared.primary.Primary.TheVariants.{Zeroed, Kept}
use Rattle.pt_cases.specs.Cases.{IsPlan, idle, backup_first, primary_first, from_mbr, one_label, within_mbr}
use Rattle.pt_layout.specs.Healthy.{IsHealthy}
use Rattle.pt_check.specs.Answers.{Answers, Promises}
use Rattle.pt_check.specs.declared.answer.Answer.TheVariants.{Yes, No}
use Rattle.pt_sector.specs.declared.reading.Failure.{Failure}
use Rattle.pt_sector.specs.declared.reading.Failure.TheVariants as failure
use Rattle.pt_recover.specs.Denotes.{IsOutsideDisk}
use Rattle.pt_recover.specs.declared.error.NoTable.TheVariants as nothing
use Rattle.pt_words.specs.declared.error.Refusal.TheVariants as refusal
use Rattle.pt_check.specs.declared.error.CheckError.{CheckError}
use Rattle.pt_check.specs.declared.error.CheckError.TheVariants as check
use Rattle.pt_cases.specs.Unplanned.{IsFailure}
use Rattle.pt_cases.specs.declared.targets.error.PlanError.TheVariants as plan
use Rattle.pt_plan.specs.declared.error.CommitError.TheVariants as commit
use Rattle.pt_check.specs.declared.answer.Answer.{Answer}
use Rattle.pt_bsd.specs.declared.label.Label.{Label}
use Rattle.pt_members.specs.Members.{place_of}
use Rattle.pt_members.specs.declared.layout.Slice.{Slice}
use Rattle.pt_cases.specs.Writes.{IsLabelTarget}

-- ## What a list of calls may have made of what a disk denotes. L is a layout, W the words of a call, R a refusal of words.

-- what is known of a call: its words were done, nothing changed, or one of the two
pub data Past (W : Type 0) : Type 0 where
  Done : W → Past W
  Unchanged : Past W
  Either : W → Past W

module _ {L W R : Type 0} (denotes : Sectors → Option L → Type 0) (edited : Option L → W → Result L R → Type 0) where
  -- one call takes o to p
  abbrev pub Steps : Past W → Option L → Option L → Type 0
  Steps (Done words) o p = (l : L) × (p ≡ Some l) × edited o words (Ok l)
  Steps Unchanged o p = p ≡ o
  Steps (Either words) o p = (p ≡ o) ⊎ ((l : L) × (p ≡ Some l) × edited o words (Ok l))

  -- these calls in order may take o to p
  abbrev pub History : List (Past W) → Option L → Option L → Type 0
  History [] o p = p ≡ o
  History (call ∷ calls) o p = (m : Option L) × Steps call o m × History calls m p

  -- c denotes what these calls may have made of o
  abbrev pub Has : Option L → List (Past W) → Sectors → Type 0
  Has o calls c = (p : Option L) × denotes c p × History calls o p

  -- each disk that a crash may leave now denotes what these calls may have made of o
  abbrev pub Holds : Option L → List (Past W) → Told → Type 0
  Holds o calls now = (c : Sectors) → MayLeave now c → Has o calls c

  -- a call carries every history on: each disk that a crash inside it may leave has one with the call interrupted, and
  -- each that a crash may leave at its return one with its answer
  pub record Carries (inside done : Past W) (old new : Told) : Type 0 where
    pub any_moment : (o : Option L) (calls : List (Past W)) → Holds o calls old → LeavesOnly old new (Has o (calls ++ inside ∷ []))
    pub at_return : (o : Option L) (calls : List (Past W)) → Holds o calls old → Holds o (calls ++ done ∷ []) new

-- ## What a commit of words does to a disk, over what a disk denotes, what words make of it, and what the planner says.

-- what is known of a commit that answered an error
abbrev pub refused : {W : Type 0} → W → CommitError → Past W
refused words (NoTable e) = Unchanged
refused words (Edit r) = Unchanged
refused words (Plan e) = Unchanged
refused words (Check why) = Unchanged
refused words (Device fault) = Either words
refused words Memory = Unchanged

-- what is known of a commit by its answer
abbrev pub past : {W : Type 0} → W → Result Unit CommitError → Past W
past words (Ok x) = Done words
past words (Err e) = refused words e

module _ {W : Type 0} (denotes : Sectors → Option Layout → Type 0) (reason : Sectors → NoTableValue → Type 0) (makes : W → Type 0)
    (edited : Option Layout → W → Result Layout Refusal → Type 0) (plans : Sectors → Layout → List Writes → Type 0)
    (unplanned : Sectors → Layout → PlanError → Type 0) (healthy : Sectors → Type 0) (table owned : Option Layout → ℕ → Type 0) where
  -- the words lead from what d denotes to the layout l
  pub record Leads (words : W) (d : Sectors) (o : Option Layout) (l : Layout) : Type 0 where
    pub from : denotes d o
    pub may : o ≡ None → makes words
    pub to : edited o words (Ok l)

  -- a plan for the words
  pub record Planned (words : W) (d : Sectors) (phases : List Writes) : Type 0 where
    pub old : Option Layout
    pub new : Layout
    pub leads : Leads words d old new
    pub planned : plans d new phases

  -- why the words are refused on d: never because the checker refuses their plan
  abbrev pub Refuses : W → Sectors → CommitError → Type 0
  Refuses words d (NoTable e) = denotes d None × reason d e × (makes words → ⊥)
  Refuses words d (Edit r) = (o : Option Layout) × denotes d o × (o ≡ None → makes words) × edited o words (Err r)
  Refuses words d (Plan e) = (o : Option Layout) × (l : Layout) × Leads words d o l × unplanned d l e
  Refuses words d (Check why) = ⊥
  Refuses words d (Device fault) = Unit {0}
  Refuses words d Memory = Unit {0}

  -- c has of d what a change from its layout to the one of the words must leave alone
  abbrev pub Bounded : W → Sectors → Sectors → Type 0
  Bounded words d c = (o : Option Layout) × (l : Layout) × Leads words d o l × Keeps denotes healthy table owned o (Some l) d c

  -- a checked plan for the words
  pub record Ready (words : W) (d : Sectors) (phases : List Writes) : Type 0 where
    pub old : Option Layout
    pub new : Layout
    pub leads : Leads words d old new
    pub planned : plans d new phases
    pub finished : denotes (after phases d) (Some new)
    pub switch : ℕ
    pub safe : Safe denotes healthy table owned phases d switch

  -- the first flush was done, and then a call of a checked plan failed, by this fault: how far the calls came
  pub record FailedWriting (words : W) (old new : Told) (fault : Fault) : Type 0 where
    pub mid : Told
    pub flushed : Flushed old mid
    pub phases : List Writes
    pub ready : Ready words mid.seen phases
    pub failed : CallFailed phases mid.seen mid new fault

  -- at the return after a device's fault. A read's: only the first flush was done. A write's: a checked plan's call failed.
  -- A flush's: the first one failed, or a checked plan's
  abbrev pub EndsBy : W → Fault → Told → Told → Type 0
  EndsBy words (Read at) old new = Flushed old new
  EndsBy words (Write at) old new = FailedWriting words old new (Write at)
  EndsBy words Flush old new = FailedFlush old new ⊎ FailedWriting words old new Flush

  -- a read gives what the phases of a checked plan for the words make of what it gave before, and nothing else
  pub record IsWritten (words : W) (old new : Told) : Type 0 where
    pub phases : List Writes
    pub ready : Ready words old.seen phases
    pub seen : new.seen ≡ after phases old.seen

  -- at the return: the words are done, durable, the disk is healthy, and no byte is another but those that a plan for the words
  -- writes; or only the first flush was done, and why
  abbrev pub Ends : W → Result Unit CommitError → Told → Told → Type 0
  Ends words (Ok x) old new = Settled new new.seen × healthy new.seen
      × ((o : Option Layout) × (l : Layout) × Leads words old.seen o l × denotes new.seen (Some l)) × IsWritten words old new
  Ends words (Err (Device fault)) old new = EndsBy words fault old new
  Ends words (Err e) old new = Flushed old new × Refuses words old.seen e

  -- a commit of the words that answered so, whatever was on the disk and whatever calls went before
  pub record Committed (words : W) (result : Result Unit CommitError) (old new : Told) : Type 0 where
    pub history : Carries denotes edited (Either words) (past words result) old new
    pub ends : Ends words result old new
    pub bounds : LeavesOnly old new (Bounded words old.seen)

-- ## Every plan lands.

-- the phase, counted from 1, that turns the disk to the layout wanted, where that is another one; 0 where nothing is to do
abbrev pub turn_of : {b : ℕ} {d : Sectors} {p : Layout} {phases : List Writes} → IsPlan b d p phases → ℕ
turn_of (idle healthy none) = 0
turn_of (backup_first o t is) = 2
turn_of (primary_first o t is) = 3
turn_of (from_mbr o t is) = 2
turn_of (one_label o t is) = 1
turn_of {phases = phases} (within_mbr o records chain is) = length phases

-- of a plan that keeps the primary copy: the first phase behind the backup copy, where that comes first; the last one of the primary
-- copy, where that does
abbrev pub turn_of_kept : {b : ℕ} {d : Sectors} {p : Layout} {full : List Writes} → (phases : List Writes) → (plan : IsPlan b d p full)
    → KeptOf plan phases → ℕ
turn_of_kept phases (backup_first o t is) kept = length kept.front + 1
turn_of_kept phases (primary_first o t is) kept = length kept.middle
turn_of_kept phases (idle healthy none) kept = 0
turn_of_kept phases (from_mbr o t is) kept = 2
turn_of_kept phases (one_label o t is) kept = 1
turn_of_kept {full = full} phases (within_mbr o records chain is) kept = length full

-- where it is kept, of an MBR on a disk that denotes none: the last phase before headers are zeroed
abbrev pub turn_by : (primary : Choice) (b : ℕ) (d : Sectors) (p : Layout) (phases : List Writes) → IsPlanBy primary b d p phases → ℕ
turn_by Zeroed b d p phases is = turn_of is
turn_by Kept b d p phases (inl is) = turn_of_kept phases is.plan is.kept
turn_by Kept b d p phases (inr is) = length is.turning

-- ## How a plan lands: that it is accepted, with which switch, and in what it ends.

-- 0 where the disk denotes p already, else this phase
abbrev pub IsTold : Option Layout → Layout → ℕ → ℕ → Type 0
IsTold o p turn switch = ((o ≡ Some p) × (switch ≡ 0)) ⊎ ((¬ (o ≡ Some p)) × (switch ≡ turn))

-- the phases are accepted with their switch, and the disk is healthy after them, with the layout p
pub record Lands (b : ℕ) (d : Sectors) (o : Option Layout) (p : Layout) (phases : List Writes) (turn : ℕ) : Type 0 where
  pub switch : ℕ
  pub told : IsTold o p turn switch
  pub answers : Answers b d phases (Yes switch)
  pub ends : IsHealthy b (after phases d) p

-- ## Errors of a commit: their numbers, and the failures of the device that go with them.

abbrev pub commit_error_number : CommitError → ℕ
commit_error_number (commit.NoTable e) = 1
commit_error_number (commit.Edit r) = 2
commit_error_number (commit.Plan e) = 3
commit_error_number (commit.Check why) = 4
commit_error_number (commit.Device fault) = 5
commit_error_number commit.Memory = 6

-- the fault that a commit's error carries
abbrev pub commit_fault_in : CommitError → Option Fault
commit_fault_in (commit.Device fault) = Some fault
commit_fault_in _ = None

-- neither the device's fault nor lack of memory is reported within another error
abbrev pub HidesNoFailure : CommitError → Type 0
HidesNoFailure (commit.NoTable e) = ¬ IsOutsideDisk e
HidesNoFailure (commit.Edit r) = r ≢ refusal.Memory
HidesNoFailure (commit.Plan e) = ¬ IsFailure e
HidesNoFailure _ = Unit {0}

-- what a commit tells where there is no table, of a failure, of an edit's refusal, and of the planner's and the checker's errors
abbrev pub commit_untabled : NoTableValue → CommitError
commit_untabled (nothing.Device at) = commit.Device (Read at)
commit_untabled nothing.Memory = commit.Memory
commit_untabled e = commit.NoTable e

abbrev pub commit_failure : Failure → CommitError
commit_failure (failure.Device at) = commit.Device (Read at)
commit_failure failure.Memory = commit.Memory

abbrev pub commit_unedited : Refusal → CommitError
commit_unedited refusal.Memory = commit.Memory
commit_unedited r = commit.Edit r

abbrev pub commit_unplanned : PlanError → CommitError
commit_unplanned (plan.Device fault) = commit.Device fault
commit_unplanned plan.Memory = commit.Memory
commit_unplanned e = commit.Plan e

abbrev pub commit_unchecked : CheckError → CommitError
commit_unchecked (check.Device fault) = commit.Device fault
commit_unchecked check.Memory = commit.Memory

-- ## A plan from anywhere that is checked and then applied, on a disk with sectors of b bytes.

-- c is d stopped in some phase of a plan that the checker's promises hold of
pub record SafelyStopped (b : ℕ) (phases : List Writes) (d c : Sectors) : Type 0 where
  pub switch : ℕ
  pub safe : Promises b d phases (Yes switch)
  pub stopped : StoppedSomewhere phases d c

-- after a no only a flush was done; after a yes the finished disk is durable
abbrev pub AppliedEnds : List Writes → Answer → Told → Told → Type 0
AppliedEnds phases (No why) old new = Flushed old new
AppliedEnds phases (Yes switch) old new = Settled new (after phases old.seen)

-- the answer is right of what a read gave at first, and was acted upon
pub record Applied (b : ℕ) (phases : List Writes) (old new : Told) (answer : Answer) : Type 0 where
  pub answers : Answers b old.seen phases answer
  pub promises : Promises b old.seen phases answer
  pub ends : AppliedEnds phases answer old new

-- the first flush was done, the checker said yes, and then a call of the plan failed, by this fault: how far the calls came
pub record FailedApplying (b : ℕ) (phases : List Writes) (old new : Told) (fault : Fault) : Type 0 where
  pub mid : Told
  pub flushed : Flushed old mid
  pub switch : ℕ
  pub answers : Answers b old.seen phases (Yes switch)
  pub safe : Promises b old.seen phases (Yes switch)
  pub failed : CallFailed phases mid.seen mid new fault

-- at the return after a device's fault. A read's: only the first flush was done. A write's: a call of the plan failed, after
-- a yes. A flush's: the first one failed, or the plan's
abbrev pub FailsBy : ℕ → List Writes → Fault → Told → Told → Type 0
FailsBy b phases (Read at) old new = Flushed old new
FailsBy b phases (Write at) old new = FailedApplying b phases old new (Write at)
FailsBy b phases Flush old new = FailedFlush old new ⊎ FailedApplying b phases old new Flush

-- at the return after an error. For lack of memory only the first flush was done, and no error but these two is reported
abbrev pub ApplyFailed : ℕ → List Writes → Told → Told → CommitError → Type 0
ApplyFailed b phases old new (Device fault) = FailsBy b phases fault old new
ApplyFailed b phases old new Memory = Flushed old new
ApplyFailed b phases old new e = ⊥

-- ## What the label places of the wanted layout hold once a plan is done.

-- after these phases the place of a slice holds the target of its label
pub record HoldsTarget (b : ℕ) (d : Sectors) (o : Option Layout) (phases : List Writes) (w : Slice) (l : Label) : Type 0 where
  pub bytes : List ℕ
  pub target : IsLabelTarget b d o w l bytes
  pub held : sector (after phases d) (place_of w) ≡ bytes

-- ## The phases of a plan have writes, and these ascend.

-- one write at least, each of a higher sector than the one before it
pub record IsPhase (ws : Writes) : Type 0 where
  pub some : 1 ≤ length ws
  pub ascending : IsAscending ws
