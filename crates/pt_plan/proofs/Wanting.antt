-- The steps before the first write, by what is wanted.
use Rattle.std.proofs.Common.{◌≡◌, ℕ, List, length, Option, inl, inr, refl, sym, subst}
use Rattle.pt_sector.specs.Sectors.{Sectors, IsSectorSize, Writes}
use Rattle.pt_sector.specs.declared.reading.Failure.{Failure}
use Rattle.pt_sector.specs.declared.reading.Failure.TheVariants as failure
use Rattle.pt_recover.specs.Denotes.{IsReason, Denotes}
use Rattle.pt_members.specs.declared.layout.Layout.{Layout}
use Rattle.pt_members.specs.Tables.{OwnedOf, TableOf}
use Rattle.pt_layout.specs.Healthy.{VerdictReads, Healthy}
use Rattle.pt_cases.specs.Kept.{IsPlanBy}
use Rattle.pt_cases.specs.NewMbr.{UnplannedBy}
use Rattle.pt_cases.specs.declared.primary.Primary.{Primary as Choice}
use Rattle.pt_check.specs.Answers.{CheckReads}
use Rattle.pt_planner.specs.PlanReads.{PlanReadsBy, MakeReadsBy}
use Rattle.pt_plan.proofs.EveryPlan.{from_by, plan_lands, plan_finishes, plan_not_refused}
use Rattle.pt_plan.specs.Commits.{Leads, commit_failure}
use Rattle.pt_plan.specs.Batches.{FromNothing, ChangedBy, to_layout}
use Rattle.pt_plan.specs.Layouts.{IsAccepted, IsReadyFor, IsRefusalOf}
use Rattle.pt_plan.specs.Batches as reading
use Rattle.pt_plan.specs.inner.Commits.{NotPlanned, IsSafe, NotSafe}
use Rattle.pt_plan.specs.Wanted.{IsPlanOf, IsReadyOf, IsRefusedBy, PlanOfReads, WriteOfReads}
use Rattle.pt_plan.specs.declared.error.CommitError.{CommitError}
use Rattle.pt_plan.specs.declared.error.CommitError.TheVariants.{NoTable, Edit, Plan, Check, Device, Memory}
use Rattle.pt_plan.specs.declared.wanted.Wanted.{Wanted}
use Rattle.pt_plan.specs.declared.wanted.Wanted.TheVariants as wanted
use Rattle.pt_plan.proofs.Mendable.{ready_to_mend, not_safe_to_mend}
use Rattle.pt_plan.proofs.Starting.{ready, not_safe}

pub accepted : (primary : Choice) (b : ℕ) (w : Layout) (d : Sectors) (phases : List Writes) → IsSectorSize b → IsPlanBy primary b d w phases
    → IsAccepted primary b w d phases
accepted primary b w d phases size is = let from = from_by b d w phases primary is in record {
  old = from.0;
  from = from.1;
  planned = is;
  lands = plan_lands b d from.0 w phases primary size from.1 is;
}

-- a layout leads to itself, from whatever the disk denotes
module _ (primary : Choice) (b n : ℕ) (w : Layout) (d : Sectors) (o : Option Layout) (from : Denotes b d o) where
  leads : Leads (Denotes b) (IsReason b) FromNothing (ChangedBy b n) (IsPlanBy primary b) (UnplannedBy primary b) (Healthy b) (TableOf b)
      (OwnedOf b) (to_layout w) d o w
  leads = record { from = from; may = λ none. tt; to = refl }

  pub not_planned_for : (e : CommitError) → NotPlanned primary b d w e → IsRefusalOf primary b n w d e
  not_planned_for (NoTable e) none = absurd none
  not_planned_for (Edit r) none = absurd none
  not_planned_for (Plan e) is = (o, w, leads, is)
  not_planned_for (Check why) none = absurd none
  not_planned_for (Device fault) is = tt
  not_planned_for Memory is = tt

-- a plan for it, once the checker accepts it, which it does
module _ (primary : Choice) (b n : ℕ) (w : Layout) (d : Sectors) (phases : List Writes) (size : IsSectorSize b)
    (is : IsPlanBy primary b d w phases) where
  ready_for : IsSafe b d phases → IsReadyFor primary b n w d phases
  ready_for safe = let from = from_by b d w phases primary is in record {
    old = from.0;
    new = w;
    leads = leads primary b n w d from.0 from.1;
    planned = is;
    finished = (plan_finishes b d w phases primary size is).denotes;
    switch = safe.switch;
    safe = safe.safe;
  }

  not_safe_for : (e : CommitError) → NotSafe b d phases e → IsRefusalOf primary b n w d e
  not_safe_for (NoTable e) none = absurd none
  not_safe_for (Edit r) none = absurd none
  not_safe_for (Plan e) none = absurd none
  not_safe_for (Check why) against = absurd (plan_not_refused b d w phases primary why size is against)
  not_safe_for (Device fault) failed = tt
  not_safe_for Memory failed = tt

-- the same of whatever is wanted
pub ready_of : (primary : Choice) (b n : ℕ) (w : Wanted) (d : Sectors) (phases : List Writes) → IsSectorSize b
    → IsPlanOf primary b n w d phases
    → IsSafe b d phases → IsReadyOf primary b n w d phases
ready_of primary b n (wanted.Edited edits guids) d phases size is safe = ready primary b n _ d phases size is safe
ready_of primary b n (wanted.Layout layout) d phases size is safe = ready_for primary b n layout.now d phases size is safe
ready_of primary b n wanted.Own d phases size is safe = ready_to_mend primary b d size phases is safe

pub not_safe_of : (primary : Choice) (b n : ℕ) (w : Wanted) (d : Sectors) (phases : List Writes) → IsSectorSize b
    → IsPlanOf primary b n w d phases
    → (e : CommitError) → NotSafe b d phases e → IsRefusedBy primary b n w d e
not_safe_of primary b n (wanted.Edited edits guids) d phases size is e why = not_safe primary b n _ d phases size is e why
not_safe_of primary b n (wanted.Layout layout) d phases size is e why = not_safe_for primary b n layout.now d phases size is e why
not_safe_of primary b n wanted.Own d phases size is e why = not_safe_to_mend primary b d size phases is e why

-- lack of memory, and a failure of the device, before anything is planned
pub failed_of : (primary : Choice) (b n : ℕ) (w : Wanted) (d : Sectors) (f : Failure) → IsRefusedBy primary b n w d (commit_failure f)
failed_of primary b n (wanted.Edited edits guids) d (failure.Device at) = tt
failed_of primary b n (wanted.Edited edits guids) d failure.Memory = tt
failed_of primary b n (wanted.Layout layout) d (failure.Device at) = tt
failed_of primary b n (wanted.Layout layout) d failure.Memory = tt
failed_of primary b n wanted.Own d (failure.Device at) = tt
failed_of primary b n wanted.Own d failure.Memory = tt

-- what is read for it
pub verdict_of : (primary : Choice) (b n : ℕ) (w : Wanted) (d : Sectors) (s : ℕ) → VerdictReads b d s → PlanOfReads primary b n w d s
verdict_of primary b n (wanted.Edited edits guids) d s reads = reading.verdict reads
verdict_of primary b n (wanted.Layout layout) d s reads = inl reads
verdict_of primary b n wanted.Own d s reads = reading.mend_verdict reads

pub plan_for_reads : (primary : Choice) (b n : ℕ) (l : Layout) (d : Sectors) → length d ≡ n → (s : ℕ) → PlanReadsBy primary b n l s
    → MakeReadsBy primary b d l s
plan_for_reads primary b n l d sized s reads = inr (subst (λ (k : ℕ). PlanReadsBy primary b k l s) (sym sized) reads)

pub planned_of : (primary : Choice) (b n : ℕ) (w : Wanted) (d : Sectors) (s : ℕ) → PlanOfReads primary b n w d s
    → WriteOfReads primary b n w d s
planned_of primary b n (wanted.Edited edits guids) d s reads = reading.edit reads
planned_of primary b n (wanted.Layout layout) d s reads = reading.layout_plan reads
planned_of primary b n wanted.Own d s reads = reading.mend reads

pub checked_of : (primary : Choice) (b n : ℕ) (w : Wanted) (d : Sectors) (phases : List Writes) → IsPlanOf primary b n w d phases
    → (s : ℕ) → CheckReads b d phases s
    → WriteOfReads primary b n w d s
checked_of primary b n (wanted.Edited edits guids) d phases is s reads = reading.check phases is reads
checked_of primary b n (wanted.Layout layout) d phases is s reads = reading.layout_check phases is reads
checked_of primary b n wanted.Own d phases is s reads = reading.mend_check phases is reads
