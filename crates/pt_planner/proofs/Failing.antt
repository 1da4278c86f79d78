-- What the planner answers where a part of it fails.
use Rattle.std.proofs.Common.{◌≡◌, inl, ℕ, List, Option, None, Result, Ok, Err, IfErr, refl}
use Rattle.pt_sector.specs.Sectors.{Sectors}
use Rattle.pt_sector.proofs.CallsLemmas.{read_in_more}
use Rattle.pt_sector.specs.Device.{with_fault}
use Rattle.pt_sector.specs.Overlays.{FailedIn, fault_of}
use Rattle.pt_sector.specs.declared.disk.Fault.{Fault}
use Rattle.pt_sector.specs.declared.reading.Failure.{Failure}
use Rattle.pt_sector.specs.declared.reading.Failure.TheVariants as failure
use Rattle.pt_members.specs.declared.layout.Layout.{Layout}
use Rattle.pt_cases.specs.Unplanned.{fault_in, plan_failure, Unplanned}
use Rattle.pt_cases.specs.inner.Unplanned.{Hindered}
use Rattle.pt_cases.specs.declared.targets.error.PlanError.{PlanError}
use Rattle.pt_cases.specs.declared.targets.error.PlanError.TheVariants.{NotOneSwitch, ReusedInOneBatch, NeedsRepair, Unsound, Device}
use Rattle.pt_cases.specs.declared.targets.error.PlanError.TheVariants.{Memory}
use Rattle.pt_cases.specs.declared.primary.Primary.{Primary}
use Rattle.pt_cases.specs.declared.primary.Primary.TheVariants.{Zeroed, Kept}
use Rattle.pt_planner.specs.PlanReads.{FailedInPlan, PlanReads, PlanReadsBy}
use Rattle.pt_planner.specs.inner.PlanReads.{IsUnsoundBy, PlacesStop}

pub failure_blames : (old new : List Fault) (e : Failure) → new ≡ with_fault old (fault_of e)
    → new ≡ with_fault old (fault_in (plan_failure e))
failure_blames old new (failure.Device at) came = came
failure_blames old new failure.Memory came = came

pub failure_unplanned : (b : ℕ) (d : Sectors) (p : Layout) (e : Failure) → Unplanned b d p (plan_failure e)
failure_unplanned b d p (failure.Device at) = tt
failure_unplanned b d p failure.Memory = tt

pub failure_hindered : (b : ℕ) (d : Sectors) (o : Option Layout) (p : Layout) (e : Failure) → Hindered b d o p (plan_failure e)
failure_hindered b d o p (failure.Device at) = tt
failure_hindered b d o p failure.Memory = tt

pub failure_stops : (b : ℕ) (d : Sectors) (o : Option Layout) (p : Layout) (e : Failure) → PlacesStop b d o p (plan_failure e)
failure_stops b d o p (failure.Device at) = tt
failure_stops b d o p failure.Memory = tt

pub unsound_blames : (b : ℕ) (p : Layout) (old : List Fault) (e : PlanError) → IsUnsoundBy b p e → old ≡ with_fault old (fault_in e)
unsound_blames b p old NotOneSwitch is = absurd is
unsound_blames b p old ReusedInOneBatch is = absurd is
unsound_blames b p old NeedsRepair is = absurd is
unsound_blames b p old (Unsound f) is = refl
unsound_blames b p old (Device fault) is = absurd is
unsound_blames b p old Memory is = refl

pub unsound_unplanned : (b : ℕ) (d : Sectors) (p : Layout) (e : PlanError) → IsUnsoundBy b p e → Unplanned b d p e
unsound_unplanned b d p NotOneSwitch is = absurd is
unsound_unplanned b d p ReusedInOneBatch is = absurd is
unsound_unplanned b d p NeedsRepair is = absurd is
unsound_unplanned b d p (Unsound f) is = inl is
unsound_unplanned b d p (Device fault) is = absurd is
unsound_unplanned b d p Memory is = tt

-- at one of more sectors
pub plan_wider : (S T : ℕ → Type 0) (e : PlanError) → ((s : ℕ) → S s → T s) → FailedInPlan S e → FailedInPlan T e
plan_wider S T NotOneSwitch more is = tt
plan_wider S T ReusedInOneBatch more is = tt
plan_wider S T NeedsRepair more is = tt
plan_wider S T (Unsound f) more is = tt
plan_wider S T (Device fault) more is = read_in_more S T fault more is
plan_wider S T Memory more is = tt

-- what the planner tells of a failure
pub failed_planned : (S T : ℕ → Type 0) (f : Failure) → ((s : ℕ) → S s → T s) → FailedIn S f → FailedInPlan T (plan_failure f)
failed_planned S T (failure.Device at) more is = more at.0 is
failed_planned S T failure.Memory more is = tt

-- no read failed where no fault is reported
nowhere : (S : ℕ → Type 0) (e : PlanError) → fault_in e ≡ None → FailedInPlan S e
nowhere S NotOneSwitch none = tt
nowhere S ReusedInOneBatch none = tt
nowhere S NeedsRepair none = tt
nowhere S (Unsound f) none = tt
nowhere S (Device f) none = absurd cc
nowhere S Memory none = tt

pub faultless_nowhere : {A : Type 0} (S : ℕ → Type 0) (r : Result A PlanError) → IfErr r (λ e. fault_in e ≡ None)
    → IfErr r (FailedInPlan S)
faultless_nowhere S (Ok x) none = tt
faultless_nowhere S (Err e) none = nowhere S e none

pub unsound_nowhere : (b : ℕ) (p : Layout) (S : ℕ → Type 0) (e : PlanError) → IsUnsoundBy b p e → FailedInPlan S e
unsound_nowhere b p S NotOneSwitch is = tt
unsound_nowhere b p S ReusedInOneBatch is = tt
unsound_nowhere b p S NeedsRepair is = tt
unsound_nowhere b p S (Unsound f) is = tt
unsound_nowhere b p S (Device fault) is = absurd is
unsound_nowhere b p S Memory is = tt

-- a plan that keeps the primary copy reads what another one does, and more
pub reads_by : (primary : Primary) (b n : ℕ) (p : Layout) (s : ℕ) → PlanReads b n p s → PlanReadsBy primary b n p s
reads_by Zeroed b n p s reads = reads
reads_by Kept b n p s reads = inl reads
