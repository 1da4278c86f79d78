-- Where a device failed in the steps of a commit.
use Rattle.std.specs.Prelude.{◌≡◌, ℕ, List, slice_index_or, [], None}
use Rattle.pt_sector.specs.Sectors.{Writes}
use Rattle.pt_sector.specs.Overlays.{FailedIn}
use Rattle.pt_sector.specs.Device.{IsReadIn}
use Rattle.pt_sector.specs.declared.disk.Fault.{Fault}
use Rattle.pt_sector.specs.declared.disk.Fault.TheVariants.{Read, Write, Flush}
use Rattle.pt_sector.specs.declared.reading.Failure.{Failure}
use Rattle.pt_sector.specs.declared.reading.Failure.TheVariants as failure
use Rattle.pt_apply.specs.Plans.{FaultOf}
use Rattle.pt_check.specs.Answers.{FailedInCheck}
use Rattle.pt_check.specs.declared.error.CheckError.{CheckError}
use Rattle.pt_check.specs.declared.error.CheckError.TheVariants as check
use Rattle.pt_planner.specs.PlanReads.{FailedInPlan}
use Rattle.pt_cases.specs.declared.targets.error.PlanError.{PlanError}
use Rattle.pt_cases.specs.declared.targets.error.PlanError.TheVariants as plan
use Rattle.pt_plan.specs.Commits.{commit_fault_in, commit_failure, commit_unplanned, commit_unchecked}
use Rattle.pt_plan.specs.Batches.{FailedInCommit}
use Rattle.pt_plan.specs.declared.error.CommitError.{CommitError}
use Rattle.pt_plan.specs.declared.error.CommitError.TheVariants as commit
use Rattle.pt_plan.proofs.Exits.{reads_nothing}

-- a fault of no read is at one of any sectors
pub by_flush : (S : ℕ → Type 0) (fault : Fault) → fault ≡ Flush → FailedInCommit S (commit.Device fault)
by_flush S (Read at) is = absurd cc
by_flush S (Write at) is = tt
by_flush S Flush is = tt

pub by_call : (S : ℕ → Type 0) (phases : List Writes) (fault : Fault) → FaultOf phases fault → FailedInCommit S (commit.Device fault)
by_call S phases (Read at) of = absurd (reads_nothing (slice_index_or phases of.phase []) of.call at of.is)
by_call S phases (Write at) of = tt
by_call S phases Flush of = tt

-- at one of more sectors
device_wider : (S T : ℕ → Type 0) (fault : Fault) → ((s : ℕ) → S s → T s) → FailedInCommit S (commit.Device fault)
    → FailedInCommit T (commit.Device fault)
device_wider S T (Read at) more is = more at.0 is
device_wider S T (Write at) more is = tt
device_wider S T Flush more is = tt

pub commit_wider : (S T : ℕ → Type 0) (e : CommitError) → ((s : ℕ) → S s → T s) → FailedInCommit S e → FailedInCommit T e
commit_wider S T (commit.NoTable e) more is = tt
commit_wider S T (commit.Edit r) more is = tt
commit_wider S T (commit.Plan e) more is = tt
commit_wider S T (commit.Check why) more is = tt
commit_wider S T (commit.Device fault) more is = device_wider S T fault more is
commit_wider S T commit.Memory more is = tt

-- what is reported of a failure, and of the planner's and the checker's errors
pub commit_failed : (S T : ℕ → Type 0) (f : Failure) → ((s : ℕ) → S s → T s) → FailedIn S f → FailedInCommit T (commit_failure f)
commit_failed S T (failure.Device at) more is = more at.0 is
commit_failed S T failure.Memory more is = tt

read_commit : (S : ℕ → Type 0) (fault : Fault) → IsReadIn S fault → FailedInCommit S (commit.Device fault)
read_commit S (Read at) is = is
read_commit S (Write at) is = tt
read_commit S Flush is = tt

pub commit_plan_failed : (S : ℕ → Type 0) (e : PlanError) → FailedInPlan S e → FailedInCommit S (commit_unplanned e)
commit_plan_failed S plan.NotOneSwitch is = tt
commit_plan_failed S plan.ReusedInOneBatch is = tt
commit_plan_failed S plan.NeedsRepair is = tt
commit_plan_failed S (plan.Unsound f) is = tt
commit_plan_failed S (plan.Device fault) is = read_commit S fault is
commit_plan_failed S plan.Memory is = tt

pub commit_check_failed : (S : ℕ → Type 0) (e : CheckError) → FailedInCheck S e → FailedInCommit S (commit_unchecked e)
commit_check_failed S (check.Device fault) is = read_commit S fault is
commit_check_failed S check.Memory is = tt

-- no read failed where no fault is reported
pub commit_nowhere : (S : ℕ → Type 0) (e : CommitError) → commit_fault_in e ≡ None → FailedInCommit S e
commit_nowhere S (commit.NoTable e) none = tt
commit_nowhere S (commit.Edit r) none = tt
commit_nowhere S (commit.Plan e) none = tt
commit_nowhere S (commit.Check why) none = tt
commit_nowhere S (commit.Device fault) none = absurd cc
commit_nowhere S commit.Memory none = tt
