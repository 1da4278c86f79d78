-- What a repair tells of an error in the steps that a commit has too.
use Rattle.std.proofs.Common.{◌≡◌, ℕ, refl, sym, subst}
use Rattle.pt_sector.specs.declared.disk.Fault.{Fault}
use Rattle.pt_sector.specs.declared.disk.Fault.TheVariants.{Read, Write, Flush}
use Rattle.pt_cases.specs.declared.targets.error.PlanError.TheVariants as plan
use Rattle.pt_plan.specs.Commits.{commit_fault_in, HidesNoFailure}
use Rattle.pt_plan.specs.Repairs.{repair_fault_in, MendHidesNoFailure, repair_told}
use Rattle.pt_plan.specs.Batches.{FailedInCommit, FailedInRepair}
use Rattle.pt_plan.specs.inner.Commits.{MetRead}
use Rattle.pt_plan.specs.declared.error.CommitError.{CommitError}
use Rattle.pt_plan.specs.declared.error.CommitError.TheVariants.{NoTable, Edit, Plan, Check, Device, Memory}
use Rattle.pt_plan.specs.declared.repair_error.RepairError.TheVariants as repair

-- it carries the same fault
pub told_fault : (e : CommitError) → repair_fault_in (repair_told e) ≡ commit_fault_in e
told_fault (NoTable e) = refl
told_fault (Edit r) = refl
told_fault (Plan plan.NotOneSwitch) = refl
told_fault (Plan plan.ReusedInOneBatch) = refl
told_fault (Plan plan.NeedsRepair) = refl
told_fault (Plan (plan.Unsound f)) = refl
told_fault (Plan (plan.Device fault)) = refl
told_fault (Plan plan.Memory) = refl
told_fault (Check why) = refl
told_fault (Device fault) = refl
told_fault Memory = refl

pub told_read : (e : CommitError) → MetRead (commit_fault_in e) → MetRead (repair_fault_in (repair_told e))
told_read e read = subst MetRead (sym (told_fault e)) read

-- it hides no failure
pub told_hides : (e : CommitError) → HidesNoFailure e → MendHidesNoFailure (repair_told e)
told_hides (NoTable e) hides = hides
told_hides (Edit r) hides = tt
told_hides (Plan plan.NotOneSwitch) hides = hides
told_hides (Plan plan.ReusedInOneBatch) hides = hides
told_hides (Plan plan.NeedsRepair) hides = hides
told_hides (Plan (plan.Unsound f)) hides = tt
told_hides (Plan (plan.Device fault)) hides = hides
told_hides (Plan plan.Memory) hides = hides
told_hides (Check why) hides = tt
told_hides (Device fault) hides = tt
told_hides Memory hides = tt

-- it is of the same sectors
device_place : (S : ℕ → Type 0) (fault : Fault) → FailedInCommit S (Device fault) → FailedInRepair S (repair.Device fault)
device_place S (Read at) is = is
device_place S (Write at) is = tt
device_place S Flush is = tt

pub told_place : (S : ℕ → Type 0) (e : CommitError) → FailedInCommit S e → FailedInRepair S (repair_told e)
told_place S (NoTable e) is = tt
told_place S (Edit r) is = tt
told_place S (Plan plan.NotOneSwitch) is = tt
told_place S (Plan plan.ReusedInOneBatch) is = tt
told_place S (Plan plan.NeedsRepair) is = tt
told_place S (Plan (plan.Unsound f)) is = tt
told_place S (Plan (plan.Device fault)) is = tt
told_place S (Plan plan.Memory) is = tt
told_place S (Check why) is = tt
told_place S (Device fault) is = device_place S fault is
told_place S Memory is = tt
