-- What a repair does.
use Rattle.std.specs.Prelude.{◌≡◌, ◌⊎◌, ℕ, List, Option, Some, None, Result, Ok, Err}
use Rattle.pt_sector.specs.Sectors.{Sectors, Writes, after}
use Rattle.pt_sector.specs.Device.{Told, Flushed, FailedFlush, LeavesOnly}
use Rattle.pt_sector.specs.declared.disk.Fault.{Fault}
use Rattle.pt_sector.specs.declared.disk.Fault.TheVariants.{Read, Write, Flush}
use Rattle.pt_apply.specs.Plans.{Settled, CallFailed, Keeps, Safe}
use Rattle.pt_recover.specs.declared.error.NoTable.{NoTable as NoTableValue}
use Rattle.pt_members.specs.declared.layout.Layout.{Layout}
use Rattle.pt_layout.specs.declared.sound.finding.Finding.{Finding}
use Rattle.pt_words.specs.declared.error.Refusal.{Refusal}
use Rattle.pt_plan.specs.declared.error.CommitError.{CommitError}
use Rattle.pt_plan.specs.declared.error.CommitError.TheVariants as commit
use Rattle.pt_plan.specs.declared.repair_error.RepairError.{RepairError}
use Rattle.pt_plan.specs.declared.repair_error.RepairError.TheVariants.{NoTable, Unsound, Device, Memory, Plan, Check}
use Rattle.pt_plan.specs.Commits.{Unchanged, Carries}
use Rattle.pt_recover.specs.Denotes.{IsOutsideDisk}
use Rattle.pt_cases.specs.Unplanned.{IsFailure}
use Rattle.pt_cases.specs.declared.targets.error.PlanError.TheVariants as plan
use Rattle.pt_plan.specs.declared.repair_error.RepairError.TheVariants as repair

-- ## What a repair does to a disk, over what a disk denotes, and what the planner says.

module _ (denotes : Sectors → Option Layout → Type 0) (unmendable : Sectors → Layout → Finding → Type 0) where
  -- d denotes this layout, and nothing keeps it from being mended
  pub record Mendable (d : Sectors) (l : Layout) : Type 0 where
    pub from : denotes d (Some l)
    pub may : (f : Finding) → ¬ unmendable d l f

-- why d isn't mended: it denotes nothing, or there is a finding that no repair mends. Never because there is no plan
-- else, or because the checker refuses it
abbrev pub RefusesToMend : (Sectors → Option Layout → Type 0) → (Sectors → NoTableValue → Type 0) → (Sectors → Layout → Finding → Type 0)
    → Sectors → RepairError → Type 0
RefusesToMend denotes reason unmendable d (NoTable e) = denotes d None × reason d e
RefusesToMend denotes reason unmendable d (Unsound f) = (l : Layout) × denotes d (Some l) × unmendable d l f
RefusesToMend denotes reason unmendable d (Device fault) = Unit {0}
RefusesToMend denotes reason unmendable d Memory = Unit {0}
RefusesToMend denotes reason unmendable d (Plan e) = ⊥
RefusesToMend denotes reason unmendable d (Check why) = ⊥

module _ (denotes : Sectors → Option Layout → Type 0) (plans : Sectors → Layout → List Writes → Type 0)
    (unmendable : Sectors → Layout → Finding → Type 0) where
  -- a plan for the layout that d denotes
  pub record MendPlanned (d : Sectors) (phases : List Writes) : Type 0 where
    pub layout : Layout
    pub mendable : Mendable denotes unmendable d layout
    pub planned : plans d layout phases

module _ (denotes : Sectors → Option Layout → Type 0) (plans : Sectors → Layout → List Writes → Type 0)
    (unmendable : Sectors → Layout → Finding → Type 0) (healthy : Sectors → Type 0) (table owned : Option Layout → ℕ → Type 0) where
  -- a checked one
  pub record ReadyToMend (d : Sectors) (phases : List Writes) : Type 0 where
    pub layout : Layout
    pub mendable : Mendable denotes unmendable d layout
    pub planned : plans d layout phases
    pub finished : denotes (after phases d) (Some layout)
    pub switch : ℕ
    pub safe : Safe denotes healthy table owned phases d switch

  -- the first flush was done, and then a call of a checked plan failed, by this fault: how far the calls came
  pub record FailedMending (old new : Told) (fault : Fault) : Type 0 where
    pub mid : Told
    pub flushed : Flushed old mid
    pub phases : List Writes
    pub ready : ReadyToMend mid.seen phases
    pub failed : CallFailed phases mid.seen mid new fault

  -- at the return after a device's fault. A read's: only the first flush was done. A write's: a checked plan's call failed.
  -- A flush's: the first one failed, or a checked plan's
  abbrev pub MendEndsBy : Fault → Told → Told → Type 0
  MendEndsBy (Read at) old new = Flushed old new
  MendEndsBy (Write at) old new = FailedMending old new (Write at)
  MendEndsBy Flush old new = FailedFlush old new ⊎ FailedMending old new Flush

  -- a read gives what the phases of a checked plan for the disk's layout make of what it gave before, and nothing else
  pub record IsMended (old new : Told) : Type 0 where
    pub phases : List Writes
    pub ready : ReadyToMend old.seen phases
    pub seen : new.seen ≡ after phases old.seen

  -- c has of d what a repair must leave alone
  abbrev pub MendBounded : Sectors → Sectors → Type 0
  MendBounded d c = (l : Layout) × Mendable denotes unmendable d l × Keeps denotes healthy table owned (Some l) (Some l) d c

module _ {W : Type 0} (denotes : Sectors → Option Layout → Type 0) (reason : Sectors → NoTableValue → Type 0)
    (edited : Option Layout → W → Result Layout Refusal → Type 0) (plans : Sectors → Layout → List Writes → Type 0)
    (unmendable : Sectors → Layout → Finding → Type 0) (healthy : Sectors → Type 0) (table owned : Option Layout → ℕ → Type 0) where
  -- at the return: the disk is healthy and durable, with the layout that it denoted, and no byte is another but those that a plan
  -- for it writes; or only the first flush was done, and why
  abbrev pub Mends : Result Unit RepairError → Told → Told → Type 0
  Mends (Ok x) old new = Settled new new.seen × healthy new.seen
      × ((l : Layout) × Mendable denotes unmendable old.seen l × denotes new.seen (Some l))
      × IsMended denotes plans unmendable healthy table owned old new
  Mends (Err (Device fault)) old new = MendEndsBy denotes plans unmendable healthy table owned fault old new
  Mends (Err e) old new = Flushed old new × RefusesToMend denotes reason unmendable old.seen e

  -- a repair that answered so, whatever was on the disk and whatever calls went before. On a healthy disk it calls the
  -- first flush and writes nothing
  pub record Repaired (result : Result Unit RepairError) (old new : Told) : Type 0 where
    pub history : Carries denotes edited Unchanged Unchanged old new
    pub ends : Mends result old new
    pub bounds : LeavesOnly old new (MendBounded denotes plans unmendable healthy table owned old.seen)
    pub idle : healthy old.seen → Flushed old new ⊎ FailedFlush old new

-- ## Errors of a repair: their numbers, and the failures of the device that go with them.

abbrev pub repair_error_number : RepairError → ℕ
repair_error_number (repair.NoTable e) = 1
repair_error_number (repair.Unsound f) = 2
repair_error_number (repair.Device fault) = 3
repair_error_number repair.Memory = 4
repair_error_number (repair.Plan e) = 5
repair_error_number (repair.Check why) = 6

-- the fault that a repair's error carries
abbrev pub repair_fault_in : RepairError → Option Fault
repair_fault_in (repair.Device fault) = Some fault
repair_fault_in _ = None

-- neither the device's fault nor lack of memory is reported within another error
abbrev pub MendHidesNoFailure : RepairError → Type 0
MendHidesNoFailure (repair.NoTable e) = ¬ IsOutsideDisk e
MendHidesNoFailure (repair.Plan e) = ¬ IsFailure e
MendHidesNoFailure _ = Unit {0}

-- what a repair tells of an error in the steps that a commit has too. It has no words, so that none are refused
abbrev pub repair_told : CommitError → RepairError
repair_told (commit.NoTable e) = repair.NoTable e
repair_told (commit.Edit r) = repair.Memory
repair_told (commit.Plan (plan.Unsound f)) = repair.Unsound f
repair_told (commit.Plan e) = repair.Plan e
repair_told (commit.Check why) = repair.Check why
repair_told (commit.Device fault) = repair.Device fault
repair_told commit.Memory = repair.Memory
