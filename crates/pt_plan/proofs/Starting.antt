-- The steps before a commit's first write.
use Rattle.std.proofs.Common.{◌≡◌, ◌∙◌, ℕ, zero, suc, ◌+◌, ◌<◌, List, [], ◌∷◌, length, drop, get_or, Option, Some, None, Ok, Err, refl}
use Rattle.std.proofs.Common.{sym, ap, subst, arith, add-one}
use Rattle.pt_sector.specs.Sectors.{Sectors, IsSectorSize, Writes}
use Rattle.pt_recover.specs.Denotes.{IsOutsideDisk, IsReason, Denotes, told_reason}
use Rattle.pt_recover.proofs.Told.{told_inside}
use Rattle.pt_recover.specs.declared.error.Reason.{Reason}
use Rattle.pt_recover.specs.declared.error.NoTable.{NoTable as NoTableValue}
use Rattle.pt_layout.specs.Healthy.{Healthy}
use Rattle.pt_layout.specs.Surveys.{FindingIs, IsSurvey}
use Rattle.pt_layout.specs.declared.sound.finding.Finding.TheVariants as finding
use Rattle.pt_layout.specs.declared.survey.Survey.{Survey}
use Rattle.pt_members.specs.Tables.{OwnedOf, TableOf}
use Rattle.pt_plan.proofs.EveryPlan.{plan_finishes, plan_not_refused}
use Rattle.pt_cases.specs.Kept.{IsPlanBy}
use Rattle.pt_cases.specs.NewMbr.{UnplannedBy}
use Rattle.pt_cases.specs.declared.primary.Primary.{Primary as Choice}
use Rattle.pt_planner.specs.PlanReads.{PlanReadsBy}
use Rattle.pt_cases.specs.Unplanned.{fault_in}
use Rattle.pt_cases.specs.declared.targets.error.PlanError.{PlanError}
use Rattle.pt_cases.specs.declared.targets.error.PlanError.TheVariants as plan
use Rattle.pt_plan.specs.Batches.{Words, FromNothing, ChangedBy, by_words, MakesTable, EditedBy, IsPlanned, IsReady, IsRefusal}
use Rattle.pt_plan.specs.Batches.{EditReads, FailedInCommit}
use Rattle.pt_plan.specs.Commits.{Leads, commit_fault_in, commit_unplanned, HidesNoFailure}
use Rattle.pt_plan.specs.Batches as reading
use Rattle.pt_plan.specs.inner.Commits.{sectors_in, MayStart, NotEdited, NotPlanned, IsSafe, NotSafe}
use Rattle.pt_plan.proofs.PhasesLemmas.{StartsFrom}
use Rattle.pt_plan.specs.declared.error.CommitError.{CommitError}
use Rattle.pt_plan.specs.declared.error.CommitError.TheVariants.{NoTable, Edit, Plan, Check, Device, Memory}
use Rattle.pt_members.specs.declared.layout.Layout.{Layout}

pub drop-next : {X : Type 0} (xs : List X) (i : ℕ) (x : X) → i < length xs → x ≡ get_or xs i x → drop i xs ≡ x ∷ drop (i + 1) xs
drop-next [] i x lt is = absurd (omega (arith, lt))
drop-next (y ∷ xs) zero x lt is = ap (λ (z : _). z ∷ xs) (sym is)
drop-next (y ∷ xs) (suc i) x lt is = rw add-one (rw add-one at (drop-next xs i x (omega (arith, lt)) is))

-- a layout that a disk denotes says the disk's number of sectors
sectors_are : (b n : ℕ) (d : Sectors) → length d ≡ n → (o : Option Layout) → Denotes b d o → sectors_in o n ≡ n
sectors_are b n d sized None is = refl
sectors_are b n d sized (Some o) is = is.0 ∙ sized

-- from the batch's start on
module _ (primary : Choice) (b n : ℕ) (batch : Words) (d : Sectors) (sized : length d ≡ n) (o : Option Layout)
    (starts : StartsFrom b batch d o) (m : ℕ)
    (same : m ≡ n) where
  here : sectors_in o m ≡ n
  here = ap (sectors_in o) same ∙ sectors_are b n d sized o starts.from

  pub not_edited : (e : CommitError) → NotEdited b (sectors_in o m) o batch e → IsRefusal primary b n batch d e
  not_edited (NoTable e) none = absurd none
  not_edited (Edit r) (other, is) = (o, starts.from, starts.may, subst (λ (k : ℕ). EditedBy b k o batch (Err r)) here is)
  not_edited (Plan e) none = absurd none
  not_edited (Check why) none = absurd none
  not_edited (Device fault) none = absurd none
  not_edited Memory is = tt

  module _ (l : Layout) (to : EditedBy b (sectors_in o m) o batch (Ok l)) where
    leads : Leads (Denotes b) (IsReason b) FromNothing (ChangedBy b n) (IsPlanBy primary b) (UnplannedBy primary b) (Healthy b) (TableOf b)
        (OwnedOf b)
        (by_words batch) d o l
    leads = record { from = starts.from; may = starts.may; to = subst (λ (k : ℕ). EditedBy b k o batch (Ok l)) here to }

    pub not_planned : (e : CommitError) → NotPlanned primary b d l e → IsRefusal primary b n batch d e
    not_planned (NoTable e) none = absurd none
    not_planned (Edit r) none = absurd none
    not_planned (Plan e) is = (o, l, leads, is)
    not_planned (Check why) none = absurd none
    not_planned (Device fault) is = tt
    not_planned Memory is = tt

    pub planned : (phases : List Writes) → IsPlanBy primary b d l phases → IsPlanned primary b n batch d phases
    planned phases is = record { old = o; new = l; leads = leads; planned = is }

    -- what its plan reads
    pub plan_read : (s : ℕ) → PlanReadsBy primary b n l s → EditReads primary b n batch d s
    plan_read s reads = reading.plan o l starts.from leads.to reads

-- what is reported of the planner's error carries the same fault, hides no failure, and says why there is no plan
pub unplanned_fault : (e : PlanError) → commit_fault_in (commit_unplanned e) ≡ fault_in e
unplanned_fault plan.NotOneSwitch = refl
unplanned_fault plan.ReusedInOneBatch = refl
unplanned_fault plan.NeedsRepair = refl
unplanned_fault (plan.Unsound f) = refl
unplanned_fault (plan.Device fault) = refl
unplanned_fault plan.Memory = refl

pub unplanned_hides : (e : PlanError) → HidesNoFailure (commit_unplanned e)
unplanned_hides plan.NotOneSwitch = λ failed. failed
unplanned_hides plan.ReusedInOneBatch = λ failed. failed
unplanned_hides plan.NeedsRepair = λ failed. failed
unplanned_hides (plan.Unsound f) = λ failed. failed
unplanned_hides (plan.Device fault) = tt
unplanned_hides plan.Memory = tt

pub unplanned_told : (primary : Choice) (b : ℕ) (d : Sectors) (l : Layout) (e : PlanError) → UnplannedBy primary b d l e
    → NotPlanned primary b d l (commit_unplanned e)
unplanned_told primary b d l plan.NotOneSwitch is = is
unplanned_told primary b d l plan.ReusedInOneBatch is = is
unplanned_told primary b d l plan.NeedsRepair is = is
unplanned_told primary b d l (plan.Unsound f) is = is
unplanned_told primary b d l (plan.Device fault) is = tt
unplanned_told primary b d l plan.Memory is = tt

-- a plan is never refused by the checker
pub not_safe : (primary : Choice) (b n : ℕ) (batch : Words) (d : Sectors) (phases : List Writes) → IsSectorSize b
    → IsPlanned primary b n batch d phases
    → (e : CommitError) → NotSafe b d phases e → IsRefusal primary b n batch d e
not_safe primary b n batch d phases size is (NoTable e) none = absurd none
not_safe primary b n batch d phases size is (Edit r) none = absurd none
not_safe primary b n batch d phases size is (Plan e) none = absurd none
not_safe primary b n batch d phases size is (Check why) against =
    absurd (plan_not_refused b d is.new phases primary why size is.planned against)
not_safe primary b n batch d phases size is (Device fault) failed = tt
not_safe primary b n batch d phases size is Memory failed = tt

pub ready : (primary : Choice) (b n : ℕ) (batch : Words) (d : Sectors) (phases : List Writes) → IsSectorSize b
    → IsPlanned primary b n batch d phases
    → IsSafe b d phases → IsReady primary b n batch d phases
ready primary b n batch d phases size is safe = record {
  old = is.old;
  new = is.new;
  leads = is.leads;
  planned = is.planned;
  finished = (plan_finishes b d is.new phases primary size is.planned).denotes;
  switch = safe.switch;
  safe = safe.safe;
}

-- a reason hides no failure
pub reason_hides : (e : NoTableValue) → (r : Reason) × (e ≡ told_reason r) → HidesNoFailure (NoTable e)
reason_hides e (r, is) = subst (λ (x : NoTableValue). ¬ IsOutsideDisk x) (sym is) (told_inside r)

-- the reason that a survey finds is the disk's
pub reason_is : (b : ℕ) (d : Sectors) (x : Survey) (r : NoTableValue) → IsSurvey b d x → x.finding ≡ Some (finding.NoTable r)
    → Denotes b d None × IsReason b d r
reason_is b d x r is why = subst (FindingIs b d x.layout) why is.finding

pub starts : (b : ℕ) (batch : Words) (d : Sectors) (x : Survey) → IsSurvey b d x → MayStart x (MakesTable batch.edits) (Ok tt)
    → StartsFrom b batch d x.layout
starts b batch d x is may = record { from = is.layout; may = may }

pub no_start : (primary : Choice) (b n : ℕ) (batch : Words) (d : Sectors) (x : Survey) → IsSurvey b d x
    → (e : CommitError) → MayStart x (MakesTable batch.edits) (Err e) → IsRefusal primary b n batch d e
no_start primary b n batch d x is e (never, (r, why, same)) =
    let told = reason_is b d x r is why in
    subst (IsRefusal primary b n batch d) (sym same) (told.0, told.1, never)

-- no read failed where the words make no layout
pub not_edited_nowhere : (b n : ℕ) (o : Option Layout) (batch : Words) (S : ℕ → Type 0) (e : CommitError) → NotEdited b n o batch e
    → FailedInCommit S e
not_edited_nowhere b n o batch S (NoTable e) none = absurd none
not_edited_nowhere b n o batch S (Edit r) is = tt
not_edited_nowhere b n o batch S (Plan e) none = absurd none
not_edited_nowhere b n o batch S (Check why) none = absurd none
not_edited_nowhere b n o batch S (Device fault) none = absurd none
not_edited_nowhere b n o batch S Memory is = tt
