-- The plan of an MBR where the disk denotes none, step by step.
use Rattle.std.proofs.Common.{◌≡◌, ◌∙◌, ◌⊎◌, inl, inr, ℕ, ◌-◌, ◌<◌, ◌≤◌, List, [], ◌∷◌, ◌++◌, length, take, refl, sym, ap, subst}
use Rattle.std.proofs.Common.{arith, Option, Vec, append_assoc}
use Rattle.std.specs.declared.alloc.Global.{Global}
use Rattle.std.proofs.lemmas.List.{take-map}
use Rattle.pt_sector.specs.Sectors.{Sectors, sector, Writes, Puts}
use Rattle.pt_apply.specs.Plans.{writes_of, writes_in, PhaseInRange}
use Rattle.std.specs.Prelude.{All}
use Rattle.pt_apply.specs.inner.Plans.{phases_in}
use Rattle.pt_apply.specs.declared.plan.Write.{Write}
use Rattle.pt_planner.specs.inner.Phases.{Touches}
use Rattle.pt_planner.proofs.Ranges.{length_phases, phases_below}
use Rattle.pt_cases.specs.Cases.{IsPlan}
use Rattle.pt_cases.specs.NewMbr.{before_last, empty_head, emptied, IsNewMbr, IsTurning, filled, empty, MakesMbr, Zeroes, UnplannedKept}
use Rattle.pt_cases.specs.Cases.{HadMbr}
use Rattle.pt_cases.specs.NewMbr.{no_mbr, unturned, reused, early, failed, UnplannedBy}
use Rattle.pt_cases.specs.Unplanned.{Unplanned, plan_failure}
use Rattle.pt_cases.specs.declared.primary.Primary.{Primary as Choice}
use Rattle.pt_cases.specs.declared.primary.Primary.TheVariants.{Zeroed, Kept}
use Rattle.pt_recover.proofs.Terms.{denotes_one_lem}
use Rattle.pt_sector.specs.declared.reading.Failure.{Failure}
use Rattle.pt_sector.specs.declared.reading.Failure.TheVariants as failure
use Rattle.pt_cases.specs.declared.targets.error.PlanError.{PlanError}
use Rattle.pt_cases.specs.declared.targets.error.PlanError.TheVariants.{NotOneSwitch, ReusedInOneBatch, NeedsRepair, Unsound, Device}
use Rattle.pt_cases.specs.declared.targets.error.PlanError.TheVariants.{Memory}
use Rattle.pt_cases.specs.Writes.{one_write}
use Rattle.pt_cases.proofs.NewMbr.{emptied_is_alone}
use Rattle.pt_cases.proofs.Frames.{one_is}
use Rattle.pt_members.specs.declared.layout.Layout.{Layout}
use Rattle.pt_layout.specs.Surveys.{IsSurvey}
use Rattle.pt_layout.specs.declared.survey.Survey.{Survey}
use Rattle.pt_planner.specs.PlanReads.{MakeReads, PlanReads, PlanReadsBy, head}
use Rattle.pt_planner.specs.inner.NewMbr.{AddsZeroes, IsFirstMbr, IsFree, IsHeld, IsOr}
use Rattle.pt_sector.specs.inner.ForFields.{length-written}

-- ## The phases before the last, as they are lent.

module _ {b : ℕ} (P : ℕ → Type 0) (ps seen : List (Vec (Write b) Global)) (before count : ℕ) (same : seen ≡ ps) (is : before ≡ count - 1)
    (of : count ≡ length ps) where
  last_seen : phases_in (take before seen) ≡ take (length (phases_in ps) - 1) (phases_in ps)
  last_seen =
      let all = length_phases ps in
      let at : before ≡ length (phases_in ps) - 1 = omega (arith, is, of, all) in
      ap (λ (l : List (Vec (Write b) Global)). phases_in (take before l)) same
      ∙ sym (take-map (λ (v : Vec (Write b) Global). writes_of v.items) before ps)
      ∙ ap (λ (k : ℕ). take k (phases_in ps)) at

  pub last_touch : Touches P (writes_in (phases_in (take before seen))) → Touches P (before_last (phases_in ps))
  last_touch it = subst (λ (qs : List Writes). Touches P (writes_in qs)) last_seen it

  pub last_free : ¬ Touches P (writes_in (phases_in (take before seen))) → ¬ Touches P (before_last (phases_in ps))
  last_free none = subst (λ (qs : List Writes). ¬ Touches P (writes_in qs)) last_seen none

-- ## The phases up to the turn.

pub turning_of : (b : ℕ) (d : Sectors) (p : Layout) (under bytes : List ℕ) (phases now : List Writes) → under ≡ sector d 0
    → bytes ≡ empty_head under → IsPlan b (emptied d) p phases → IsOr phases (one_write 0 bytes) now → IsTurning b d p now
turning_of b d p under bytes phases now is_under is_head plan (inl (none, is)) =
    empty (subst (IsPlan b (emptied d) p) none plan)
    (is ∙ ap (λ (v : List ℕ). one_write 0 v ∷ []) (is_head ∙ ap empty_head is_under))
turning_of b d p under bytes phases now is_under is_head plan (inr (some, is)) =
    filled (subst (IsPlan b (emptied d) p) (sym is) plan) (λ none. some (sym is ∙ none))

-- what the borrowed disk is asked for: nothing else than what a plan on it may read
pub turning_reads : (b n : ℕ) (d : Sectors) (p : Layout) (s : ℕ) → 0 < length d → 512 ≤ length (sector d 0) → length d ≡ n
    → MakeReads b (emptied d) p s → PlanReads b n p s
turning_reads b n d p s some long count (inl verdict) = head (emptied_is_alone b d s some long verdict)
turning_reads b n d p s some long count (inr reads) =
    subst (λ (m : ℕ). PlanReads b m p s) (length-written (one_write 0 (empty_head (sector d 0))) d ∙ count) reads

-- where there were no phases, one of sector 0 is in range
pub or_range : {b : ℕ} (n : ℕ) (now : List (Vec (Write b) Global)) (bytes : List ℕ) → 0 < n → phases_in now ≡ one_write 0 bytes ∷ []
    → All (λ (p : Vec (Write b) Global). PhaseInRange n p.items) now
or_range n now bytes some is = phases_below n now (λ s v puts.
    (let at = one_is 0 s bytes v (subst (λ (ps : List Writes). Puts (writes_in ps) s v) is puts) in omega (arith, at, some)))

pub no_items : {b : ℕ} (ps : List (Vec (Write b) Global)) → length ps ≡ 0 → phases_in ps ≡ []
no_items [] none = refl
no_items (p ∷ ps) none = absurd cc

-- ## The whole plan, and why there is none.

module _ (b n : ℕ) (d : Sectors) (x : Survey) (p : Layout) (survey : IsSurvey b d x) (first : IsFirstMbr n x.layout p)
    (count : length d ≡ n) where
  pub makes_mbr : MakesMbr b d x.layout p
  makes_mbr = record {
    from = survey.layout;
    some = subst (λ (m : ℕ). 0 < m) (sym count) first.some;
    records = first.records;
    chain = first.chain;
    body = first.body;
    other = first.other;
  }

  pub held_of : (turning : List Writes) (e : PlanError) → IsTurning b d p turning → IsHeld b x.layout x.trace turning e
      → UnplannedKept b d p e
  held_of turning ReusedInOneBatch turns owned = no_mbr x.layout makes_mbr (reused refl turning turns owned)
  held_of turning NotOneSwitch turns (free, touched) =
      no_mbr x.layout makes_mbr (early refl turning turns free
      (touched.0, touched.1, touched.2, (survey.trace touched.0).0 touched.3))
  held_of turning NeedsRepair turns none = absurd none
  held_of turning (Unsound f) turns none = absurd none
  held_of turning (Device fault) turns none = absurd none
  held_of turning Memory turns none = absurd none

  pub unturned_of : (e : PlanError) → Unplanned b (emptied d) p e → UnplannedKept b d p e
  unturned_of e is = no_mbr x.layout makes_mbr (unturned is)

  pub new_mbr_of : (turning mid now : List Writes) → IsTurning b d p turning → IsFree b x.layout x.trace turning
      → AddsZeroes b d x.layout p 1 turning mid → AddsZeroes b d x.layout p (n - 1) mid now → IsNewMbr b d p now
  new_mbr_of turning mid now turns free one two = record {
    old = x.layout;
    makes = makes_mbr;
    turning = turning;
    turns = turns;
    unowned = free.unowned;
    unread = λ read. free.unread (read.0, read.1, read.2, (survey.trace read.0).1 read.3);
    first = one.0;
    last = two.0;
    is_first = one.1;
    is_last = subst (λ (m : ℕ). Zeroes b d x.layout p (m - 1) two.0) (sym count) two.1;
    is = two.2 ∙ ap (λ (ps : List Writes). ps ++ two.0) one.2 ∙ append_assoc turning one.0 two.0;
  }

-- what is read where headers were
pub headers_read : (b n : ℕ) (o : Option Layout) (p : Layout) (s : ℕ) → IsFirstMbr n o p → (s ≡ 1) ⊎ (s ≡ n - 1) → PlanReadsBy Kept b n p s
headers_read b n o p s first at = inr (inr (first.records, first.chain, first.body, at))

-- where the planner makes another plan, none is such an MBR
pub none_first : (b n : ℕ) (d : Sectors) (x : Survey) (p : Layout) → IsSurvey b d x → length d ≡ n → ¬ IsFirstMbr n x.layout p
    → (o : Option Layout) → ¬ MakesMbr b d o p
none_first b n d x p survey count none o makes =
    let same : o ≡ x.layout = denotes_one_lem b d o x.layout makes.from survey.layout in
    none (record {
      some = subst (λ (m : ℕ). 0 < m) count makes.some;
      records = makes.records;
      chain = makes.chain;
      body = makes.body;
      other = subst (λ (q : Option Layout). ¬ HadMbr q) same makes.other;
    })

-- a failure is one whatever the choice
pub failure_unplanned_by : (primary : Choice) (b : ℕ) (d : Sectors) (p : Layout) (e : Failure) → UnplannedBy primary b d p (plan_failure e)
failure_unplanned_by Zeroed b d p (failure.Device at) = tt
failure_unplanned_by Zeroed b d p failure.Memory = tt
failure_unplanned_by Kept b d p (failure.Device at) = failed tt
failure_unplanned_by Kept b d p failure.Memory = failed tt
