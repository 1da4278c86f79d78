-- The steps before a repair's first write.
use Rattle.std.proofs.Common.{◌≡◌, ◌∙◌, inl, inr, ℕ, List, [], Option, Some, Result, Ok, Err, IfErr, subst}
use Rattle.pt_sector.specs.Sectors.{Sectors, IsSectorSize, Writes}
use Rattle.pt_recover.specs.Denotes.{Denotes}
use Rattle.pt_recover.proofs.Terms.{denotes_one_lem}
use Rattle.pt_members.specs.declared.layout.Layout.{Layout}
use Rattle.pt_layout.specs.Healthy.{Healthy, IsHealthy}
use Rattle.pt_plan.proofs.EveryPlan.{plan_finishes, plan_not_refused}
use Rattle.pt_cases.specs.Kept.{IsPlanBy, KeptOf}
use Rattle.pt_cases.specs.NewMbr.{IsNewMbr, MakesMbr, UnplannedBy, failed, as_ever, no_mbr}
use Rattle.pt_cases.specs.declared.primary.Primary.{Primary as Choice}
use Rattle.pt_cases.specs.declared.primary.Primary.TheVariants.{Zeroed, Kept}
use Rattle.pt_cases.specs.Cases.{IsPlan, idle, backup_first, primary_first, from_mbr, one_label, within_mbr}
use Rattle.pt_cases.proofs.Mended.{repair_is_planned_lem, mendable_by_plan_lem}
use Rattle.pt_layout.specs.declared.sound.finding.Finding.{Finding}
use Rattle.pt_cases.specs.Unplanned.{IsUnmendable, IsUnmendableBy, IsFailure, Unplanned}
use Rattle.pt_cases.specs.declared.targets.error.PlanError.{PlanError}
use Rattle.pt_cases.specs.declared.targets.error.PlanError.TheVariants as plan
use Rattle.pt_plan.specs.Batches.{IsMendPlan, IsReadyToMend, IsMendRefusal}
use Rattle.pt_plan.specs.Commits.{HidesNoFailure}
use Rattle.pt_plan.specs.Repairs.{repair_told}
use Rattle.pt_plan.specs.inner.Commits.{IsSafe, NotPlanned, NotSafe}
use Rattle.pt_plan.specs.declared.error.CommitError.{CommitError}
use Rattle.pt_plan.specs.declared.error.CommitError.TheVariants.{NoTable, Edit, Plan, Check, Device, Memory}

-- of a disk that is healthy no plan for its layout has phases
idle_plan : (b : ℕ) (d : Sectors) (o : Layout) (phases : List Writes) → IsPlan b d o phases → IsHealthy b d o → phases ≡ []
idle_plan b d o phases (idle healthy none) here = none
idle_plan b d o phases (backup_first q t is) here = absurd (is.common.not_done here)
idle_plan b d o phases (primary_first q t is) here = absurd (is.common.not_done here)
idle_plan b d o phases (from_mbr q t is) here = absurd (is.common.not_done here)
idle_plan b d o phases (one_label q t is) here = absurd (is.common.not_done here)
idle_plan b d o phases (within_mbr q records chain is) here = absurd (is.common.not_done here)

idle_kept : (b : ℕ) (d : Sectors) (o : Layout) (full phases : List Writes) → (plan : IsPlan b d o full) → KeptOf plan phases
    → IsHealthy b d o → phases ≡ []
idle_kept b d o full phases (idle healthy none) same here = same ∙ none
idle_kept b d o full phases (backup_first q t is) kept here = absurd (is.common.not_done here)
idle_kept b d o full phases (primary_first q t is) kept here = absurd (is.common.not_done here)
idle_kept b d o full phases (from_mbr q t is) same here = absurd (is.common.not_done here)
idle_kept b d o full phases (one_label q t is) same here = absurd (is.common.not_done here)
idle_kept b d o full phases (within_mbr q records chain is) same here = absurd (is.common.not_done here)

-- the layout that d denotes, where it is an MBR, isn't the first one
not_first : (b : ℕ) (d : Sectors) (o : Layout) (q : Option Layout) → Denotes b d (Some o) → ¬ MakesMbr b d q o
not_first b d o q from makes = makes.other (record {
  old = o;
  records = makes.records;
  chain = makes.chain;
  is_old = denotes_one_lem b d q (Some o) makes.from from;
  body = makes.body;
})

own_is_old : (b : ℕ) (d : Sectors) (o : Layout) (phases : List Writes) → Denotes b d (Some o) → ¬ IsNewMbr b d o phases
own_is_old b d o phases from is = not_first b d o is.old from is.makes

own_unplanned : (primary : Choice) (b : ℕ) (d : Sectors) (o : Layout) (e : PlanError) → Denotes b d (Some o)
    → UnplannedBy primary b d o e → ¬ IsFailure e → Unplanned b d o e
own_unplanned Zeroed b d o e from is inside = is
own_unplanned Kept b d o e from (failed is) inside = absurd (inside is)
own_unplanned Kept b d o e from (as_ever none is) inside = is
own_unplanned Kept b d o e from (no_mbr q makes is) inside = absurd (not_first b d o q from makes)

pub none_of_healthy : (primary : Choice) (b : ℕ) (d : Sectors) (o : Layout) (phases : List Writes) → Denotes b d (Some o)
    → IsPlanBy primary b d o phases → Healthy b d → phases ≡ []
none_of_healthy primary b d o phases from planned (p, well) =
    by_choice primary planned (subst (IsHealthy b d) (let same = denotes_one_lem b d (Some p) (Some o) well.denotes from in cc) well)
  where
    by_choice : (primary : Choice) → IsPlanBy primary b d o phases → IsHealthy b d o → phases ≡ []
    by_choice Zeroed is here = idle_plan b d o phases is here
    by_choice Kept (inl is) here = idle_kept b d o is.full phases is.plan is.kept here
    by_choice Kept (inr is) here = absurd (own_is_old b d o phases from is)

-- what a plan for its layout leads to can be mended
mendable_by : (primary : Choice) (b : ℕ) (d : Sectors) (o : Layout) (phases : List Writes) (f : Finding) → IsSectorSize b
    → Denotes b d (Some o) → IsPlanBy primary b d o phases → ¬ IsUnmendable b d o f
mendable_by Zeroed b d o phases f size here is = mendable_by_plan_lem b d o phases f size here is
mendable_by Kept b d o phases f size here (inl is) = mendable_by_plan_lem b d o is.full f size here is.plan
mendable_by Kept b d o phases f size here (inr is) = absurd (own_is_old b d o phases here is)

module _ (primary : Choice) (b : ℕ) (d : Sectors) (size : IsSectorSize b) where
  -- a disk that denotes a layout
  module _ (old : Option Layout) (from : Denotes b d old) (o : Layout) (is : old ≡ Some o) where
    here : Denotes b d (Some o)
    here = subst (Denotes b d) is from

    pub mend_planned : (phases : List Writes) → IsPlanBy primary b d o phases → IsMendPlan primary b d phases
    mend_planned phases planned = record {
      layout = o;
      mendable = record { from = here; may = λ f. mendable_by primary b d o phases f size here planned };
      planned = planned;
    }

    refuses : (e : PlanError) → IsUnmendableBy b d o e → ¬ IsFailure e → IsMendRefusal b d (repair_told (Plan e))
    refuses plan.NotOneSwitch none inside = absurd none
    refuses plan.ReusedInOneBatch none inside = absurd none
    refuses plan.NeedsRepair none inside = absurd none
    refuses (plan.Unsound f) unmendable inside = (o, here, unmendable)
    refuses (plan.Device fault) is inside = absurd (inside tt)
    refuses plan.Memory is inside = absurd (inside tt)

    mend_refused : (e : CommitError) → HidesNoFailure e → NotPlanned primary b d o e → IsMendRefusal b d (repair_told e)
    mend_refused (NoTable r) inside none = absurd none
    mend_refused (Edit r) inside none = absurd none
    mend_refused (Plan e) inside unplanned =
        refuses e (repair_is_planned_lem b d o e size here (own_unplanned primary b d o e here unplanned inside)) inside
    mend_refused (Check why) inside none = absurd none
    mend_refused (Device fault) inside is = tt
    mend_refused Memory inside is = tt

    pub mend_refused_of : {T : Type 0} (result : Result T CommitError) → IfErr result HidesNoFailure
        → IfErr result (NotPlanned primary b d o) → IfErr result (λ e. IsMendRefusal b d (repair_told e))
    mend_refused_of (Ok x) inside not = not
    mend_refused_of (Err e) inside not = mend_refused e inside not

  -- a plan, once the checker accepts it, which it does
  module _ (phases : List Writes) (is : IsMendPlan primary b d phases) where
    pub ready_to_mend : IsSafe b d phases → IsReadyToMend primary b d phases
    ready_to_mend safe = record {
      layout = is.layout;
      mendable = is.mendable;
      planned = is.planned;
      finished = (plan_finishes b d is.layout phases primary size is.planned).denotes;
      switch = safe.switch;
      safe = safe.safe;
    }

    pub not_safe_to_mend : (e : CommitError) → NotSafe b d phases e → IsMendRefusal b d (repair_told e)
    not_safe_to_mend (NoTable r) none = absurd none
    not_safe_to_mend (Edit r) none = absurd none
    not_safe_to_mend (Plan e) none = absurd none
    not_safe_to_mend (Check why) against = absurd (plan_not_refused b d is.layout phases primary why size is.planned against)
    not_safe_to_mend (Device fault) is_failed = tt
    not_safe_to_mend Memory is_failed = tt
