-- A disk's own layout has a plan, the repair of its copies, unless a finding that no repair mends is there.
use Rattle.std.proofs.Common.{◌≡◌, ◌∙◌, inl, inr, ⊎_elim, ℕ, ◌≤◌, List, length, Option, Some, refl, sym, subst, arith}
use Rattle.pt_sector.specs.Sectors.{Sectors, IsSectorSize, Writes}
use Rattle.pt_gpt.specs.declared.table.Table.{Table}
use Rattle.pt_mbr.specs.declared.ebr.Ebr.{Ebr}
use Rattle.pt_mbr.specs.declared.record.Record.{Record}
use Rattle.pt_recover.specs.Denotes.{Denotes, BodyIs, IsMbrDisk}
use Rattle.pt_members.specs.Members.{places_of, IsPlace, number_path}
use Rattle.pt_recover.proofs.Terms.{denotes_one_lem}
use Rattle.pt_members.specs.declared.layout.Body.{Body}
use Rattle.pt_members.specs.declared.layout.Body.TheVariants.{Mbr, Gpt}
use Rattle.pt_members.specs.declared.layout.Layout.{Layout}
use Rattle.pt_layout.specs.Healthy.{IsFirstForeign, IsGuarded, HasForeign, IsHealthy, IsBodyWhole}
use Rattle.pt_layout.proofs.Terms.{sound_frees_tables_lem}
use Rattle.pt_members.specs.Tables.{HasFour, IsBodyTable, IsGptTable, OwnedOf}
use Rattle.pt_layout.specs.Sound.{Sound, IsUnsound}
use Rattle.pt_layout.specs.declared.sound.finding.Finding.{Finding}
use Rattle.pt_layout.specs.declared.sound.finding.Finding.TheVariants.{NoTable, PrimaryCopy, BackupCopy, CopiesDiffer, Alternate}
use Rattle.pt_layout.specs.declared.sound.finding.Finding.TheVariants.{Protective, OutsideUsable, Overlap, OnTable, SameGuid}
use Rattle.pt_layout.specs.declared.sound.finding.Finding.TheVariants.{ForeignLabel}
use Rattle.pt_cases.specs.Cases.{IsPlan, MayHave}
use Rattle.pt_cases.proofs.Causes.{plan_none_left, plan_not_unsound}
use Rattle.pt_cases.specs.Writes.{FitsTable}
use Rattle.pt_cases.proofs.Guards.{unguarded_here}
use Rattle.pt_cases.proofs.Stands.{place_usable}
use Rattle.pt_cases.specs.Unplanned.{WouldWrite, WouldPrecede, backup, primary, copy, head, ToWrite, TargetsIn, TargetsOf, IsReused}
use Rattle.pt_cases.specs.Unplanned.{HasNoTurn, HasNoCopies, IsUnmended, SharesSector, IsFirstLeft, NoneLeft, IsUnmendable}
use Rattle.pt_cases.specs.Unplanned.{IsUnmendableBy, NoSwitch, other_disk, misplaced, targets, HasNoSwitch, unreadable, unmade, turn}
use Rattle.pt_cases.specs.Unplanned.{copies, Stops, Unplanned}
use Rattle.pt_cases.specs.Unplanned as cause
use Rattle.pt_cases.specs.declared.targets.error.PlanError.{PlanError}
use Rattle.pt_cases.specs.declared.targets.error.PlanError.TheVariants.{NotOneSwitch, ReusedInOneBatch, NeedsRepair, Unsound, Device}
use Rattle.pt_cases.specs.declared.targets.error.PlanError.TheVariants.{Memory}
use Rattle.pt_cases.specs.declared.targets.target.Target.{Target}
use Rattle.pt_cases.proofs.Each.{one_each}
use Rattle.pt_cases.proofs.Own.{own_may_be, own_fit, own_readable, own_not_new, own_not_other, own_stays, foreign_left, left_foreign}

-- a sound GPT that is a disk's own
module _ (b : ℕ) (d : Sectors) (o : Layout) (t : Table) (from : Denotes b d (Some o)) (sound : Sound b o) (body : o.body ≡ Gpt t) where
  plain : ¬ IsMbrDisk d
  plain = (subst (BodyIs b d) body from.1).0

  fits : FitsTable b (length d) t
  fits = let may = own_may_be b d o from in subst (MayHave b d (Some o)) body may.body

  -- no sector of its copies, and sector 0 as little, is a label place, or owned
  table_unguarded : (s : ℕ) → IsGptTable b (length d) s → ¬ IsGuarded b d s
  table_unguarded s table = unguarded_here b d (Some o) s plain from (λ l same at.
      let layouts : o ≡ l = cc in
      let here : IsPlace (places_of b (length d) o.body) s =
      subst (λ (x : Layout). IsPlace (places_of b (length d) x.body) s) (sym layouts) at in
      let mid =
      place_usable b o t (length d) s from.0 sound body fits (subst (λ (m : ℕ). IsPlace (places_of b m o.body) s) (sym from.0) here) in
      ⊎_elim (λ low. omega (arith, low, mid.0)) (λ high. omega (arith, high.0, mid.1)) table)

  table_free : (s : ℕ) → IsGptTable b (length d) s → ¬ OwnedOf b (Some o) s
  table_free s table owns = sound_frees_tables_lem b o s sound owns
      (inl (subst (λ (y : Body). IsBodyTable b o.sectors y s) (sym body) (subst (λ (m : ℕ). IsGptTable b m s) (sym from.0) table)))

  own_targets : (ts : List (Target b)) → ¬ TargetsOf b d (Some o) o ts
  own_targets ts is = own_stays o (subst (λ (y : Body). TargetsIn b d (Some o) o y ts) body is).0

  own_shares : ¬ SharesSector b d (Some o) o
  own_shares (ts, inl is, two) = own_targets ts is
  own_shares (ts, inr is, two) = one_each b d (Some o) o (subst HasFour (sym body) tt) sound ts is.1 two

  own_turn : ¬ HasNoTurn b d (Some o) o
  own_turn (inl (ts, is, free, none)) = own_targets ts is
  own_turn (inr shares) = own_shares shares

  precedes : (s : ℕ) → WouldPrecede b d (Some o) o s → ¬ IsGuarded b d s
  precedes s (backup gpt has low high) = table_unguarded s (inr (low, high))
  precedes s (primary gpt none low high) = table_unguarded s (inl high)
  precedes s (cause.both mbr some table) = absurd (plain mbr)
  precedes s (cause.new label) = absurd (own_not_new b d o from s label)

  own_copies : ¬ HasNoCopies b d (Some o) o
  own_copies (inl is) = ⊎_elim (λ other. own_not_other b d o from is.place other) (λ before. precedes is.place before.0 before.1) is.amiss
  own_copies (inr shares) = own_shares shares

  writes : (s : ℕ) → WouldWrite b d (Some o) o s → ¬ OwnedOf b (Some o) s
  writes s (copy some table) = table_free s table
  writes s (head first why) = table_free s (inl (omega (arith, first)))
  writes s (cause.new label) = absurd (own_not_new b d o from s label)
  writes s (cause.other label) = absurd (own_not_other b d o from s label)

  to_write : (s : ℕ) → ToWrite b d (Some o) o s → ¬ OwnedOf b (Some o) s
  to_write s (cause.both is would) = writes s would
  to_write s (cause.target ts x is change at) = absurd (own_targets ts is)

  own_reused : ¬ IsReused b d (Some o) o
  own_reused (s, would, owned) = to_write s would owned

  own_switch : ¬ HasNoSwitch b d (Some o) o
  own_switch (unreadable is) = own_readable b d o from is
  own_switch (unmade records chain is was none) = (let both : Gpt t ≡ Mbr records chain = sym body ∙ is in cc)
  own_switch (turn is) = own_turn is
  own_switch (copies is) = own_copies is

-- a disk's own sound layout with which it isn't healthy, where no foreign label is
module _ (b : ℕ) (d : Sectors) (o : Layout) (from : Denotes b d (Some o)) (sound : Sound b o) (not_done : ¬ IsHealthy b d o)
    (none : NoneLeft b d o) where
  -- is no MBR
  no_mbr : (records : List (Option Record)) (chain : List Ebr) → ¬ (o.body ≡ Mbr records chain)
  no_mbr records chain body = not_done (record {
    denotes = from;
    sound = sound;
    whole = subst (IsBodyWhole b d) (sym body) tt;
    no_foreign = λ n foreign. (let left = foreign_left b d o from n foreign in none left.0 left.1);
  })

  switches : (y : Body) → o.body ≡ y → ¬ HasNoSwitch b d (Some o) o
  switches (Mbr records chain) body is = no_mbr records chain body
  switches (Gpt t) body is = own_switch b d o t from sound body is

  reuses : (y : Body) → o.body ≡ y → ¬ IsReused b d (Some o) o
  reuses (Mbr records chain) body is = no_mbr records chain body
  reuses (Gpt t) body is = own_reused b d o t from sound body is

own_planned : (b : ℕ) (d : Sectors) (o : Layout) → Denotes b d (Some o) → Sound b o → ¬ IsHealthy b d o → ¬ NoSwitch b d (Some o) o
own_planned b d o from sound not_done (other_disk isnt) = isnt (own_may_be b d o from)
own_planned b d o from sound not_done (misplaced isnt) = isnt (own_fit b d o from)
own_planned b d o from sound not_done (targets none is) = switches b d o from sound not_done none o.body refl is

-- what stops the planner is nothing of this
stopped : (b : ℕ) (d : Sectors) (o : Layout) (C : Option Layout → Type 0) → Denotes b d (Some o) → (is : Stops b d o C) → C (Some o)
stopped b d o C from is = subst C (denotes_one_lem b d is.old (Some o) is.from from) is.cause

first_foreign : (b : ℕ) (d : Sectors) (o : Layout) (n : ℕ) → Denotes b d (Some o) → IsFirstLeft b d o n
    → IsFirstForeign b d o (number_path n)
first_foreign b d o n from is = record {
  whole_slice = refl;
  here = (let there = left_foreign b d o from is.slice is.left in subst (λ (k : ℕ). HasForeign b d o k) is.number there);
  first = λ m foreign. (let left = foreign_left b d o from m foreign in subst (λ (k : ℕ). n ≤ k) left.2 (is.first left.0 left.1));
}

-- what is unsound is reported
unsound_told : (b : ℕ) (d : Sectors) (o : Layout) (f : Finding) → IsUnsound b o f → IsUnmendable b d o f
unsound_told b d o (NoTable e) is = is
unsound_told b d o (PrimaryCopy e) is = is
unsound_told b d o (BackupCopy e) is = is
unsound_told b d o CopiesDiffer is = is
unsound_told b d o (Alternate side) is = is
unsound_told b d o Protective is = is
unsound_told b d o (OutsideUsable p) is = is
unsound_told b d o (Overlap p q) is = is
unsound_told b d o (OnTable p s) is = is
unsound_told b d o (SameGuid i j) is = is
unsound_told b d o (ForeignLabel p) is = absurd is

-- where a disk's own layout has no plan, something is unsound or a label foreign, or the device or memory failed
pub repair_is_planned_lem : (b : ℕ) (d : Sectors) (o : Layout) (e : PlanError) → IsSectorSize b → Denotes b d (Some o)
    → Unplanned b d o e → IsUnmendableBy b d o e
repair_is_planned_lem b d o (Unsound f) size from (inl unsound) = unsound_told b d o f unsound
repair_is_planned_lem b d o (Unsound f) size from (inr foreign) =
    subst (IsUnmendable b d o) (sym foreign.is) (foreign.sound, first_foreign b d o foreign.number from foreign.first)
repair_is_planned_lem b d o NotOneSwitch size from is =
    own_planned b d o from is.sound is.not_done (stopped b d o (λ x. NoSwitch b d x o) from is)
repair_is_planned_lem b d o ReusedInOneBatch size from is =
    let why = stopped b d o (λ x. NoneLeft b d o × IsReused b d x o) from is in
    reuses b d o from is.sound is.not_done why.0 o.body refl why.1
repair_is_planned_lem b d o NeedsRepair size from is =
    let why = stopped b d o (λ x. NoneLeft b d o × IsUnmended b d x o) from is in
    own_stays o why.1.changes
repair_is_planned_lem b d o (Device fault) size from is = tt
repair_is_planned_lem b d o Memory size from is = tt

-- and where it has a plan, there is no such thing
pub mendable_by_plan_lem : (b : ℕ) (d : Sectors) (o : Layout) (phases : List Writes) (f : Finding) → IsSectorSize b
    → Denotes b d (Some o) → IsPlan b d o phases → ¬ IsUnmendable b d o f
mendable_by_plan_lem b d o phases (ForeignLabel p) size from plan is =
    let left = foreign_left b d o from p.number is.1.here in
    plan_none_left b d o phases left.0 plan left.1
mendable_by_plan_lem b d o phases (NoTable e) size from plan is = is
mendable_by_plan_lem b d o phases (PrimaryCopy e) size from plan is = is
mendable_by_plan_lem b d o phases (BackupCopy e) size from plan is = is
mendable_by_plan_lem b d o phases CopiesDiffer size from plan is = is
mendable_by_plan_lem b d o phases (Alternate side) size from plan is = is
mendable_by_plan_lem b d o phases Protective size from plan is = is
mendable_by_plan_lem b d o phases (OutsideUsable p) size from plan is = plan_not_unsound b d o phases (OutsideUsable p) plan is
mendable_by_plan_lem b d o phases (Overlap p q) size from plan is = plan_not_unsound b d o phases (Overlap p q) plan is
mendable_by_plan_lem b d o phases (OnTable p s) size from plan is = plan_not_unsound b d o phases (OnTable p s) plan is
mendable_by_plan_lem b d o phases (SameGuid i j) size from plan is = plan_not_unsound b d o phases (SameGuid i j) plan is
