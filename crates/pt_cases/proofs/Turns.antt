-- A plan within an MBR and an error of the planner exclude each other, and so does any plan of a layout that fits its disk.
use Rattle.std.proofs.Common.{◌≡◌, ◌≢◌, ◌∙◌, inl, inr, ⊎_elim, ℕ, List, ◌++◌, length, Option, refl, sym, subst, arith}
use Rattle.pt_sector.specs.Sectors.{Sectors, sector, Writes, Puts}
use Rattle.pt_mbr.specs.declared.ebr.Ebr.{Ebr}
use Rattle.pt_mbr.specs.declared.record.Record.{Record}
use Rattle.pt_recover.specs.Denotes.{Denotes, BodyIs, IsMbrDisk}
use Rattle.pt_recover.proofs.Terms.{denotes_one_lem}
use Rattle.pt_mbr.specs.Records.{extended_of}
use Rattle.pt_members.specs.declared.layout.Body.{Body}
use Rattle.pt_members.specs.declared.layout.Body.TheVariants.{Mbr, Gpt}
use Rattle.pt_members.specs.declared.layout.Layout.{Layout}
use Rattle.pt_layout.specs.Healthy.{IsGuarded, IsHealthy}
use Rattle.pt_layout.proofs.Guarded.{guarded_reads, reads_guarded}
use Rattle.pt_layout.specs.Sound.{Sound}
use Rattle.pt_apply.specs.Plans.{writes_in}
use Rattle.pt_cases.specs.Cases.{IsNeeded, IsPlan, IsWithinMbr, HadMbr}
use Rattle.pt_cases.specs.Writes.{one_write, IsLoneChain, ComesToHold}
use Rattle.pt_apply.proofs.Puts.{puts_right, puts_split}
use Rattle.pt_cases.proofs.Frames.{one_is}
use Rattle.pt_cases.specs.Unplanned.{WritesBoth, TargetsIn, TargetsOf, TurnsAmiss, IsReused, IsFailure, NoSwitch, HasNoSwitch, unreadable}
use Rattle.pt_cases.specs.Unplanned.{unmade, turn, copies, Unplanned}
use Rattle.pt_cases.specs.Unplanned as cause
use Rattle.pt_cases.specs.Targets.{IsChange}
use Rattle.pt_cases.specs.declared.targets.error.PlanError.{PlanError}
use Rattle.pt_cases.specs.declared.targets.error.PlanError.TheVariants.{NotOneSwitch, ReusedInOneBatch, NeedsRepair, Unsound, Device}
use Rattle.pt_cases.specs.declared.targets.error.PlanError.TheVariants.{Memory}
use Rattle.pt_cases.specs.declared.targets.target.Target.{Target}
use Rattle.pt_cases.proofs.Both.{backup_first_switch, primary_first_switch, from_mbr_switch, backup_first_frees, primary_first_frees}
use Rattle.pt_cases.proofs.Both.{from_mbr_frees}
use Rattle.pt_cases.proofs.EachCase.{no_plan_has}
use Rattle.pt_cases.proofs.OneLabel.{label_switch, label_frees}
use Rattle.pt_cases.proofs.Planned.{planned_is_sound, planned_needs_no_repair}
use Rattle.pt_cases.proofs.SameHeads.{MbrHas, mbr_pair, mbr_met_has, targets_have, target_needed}
use Rattle.pt_cases.proofs.SameLabels.{Held, changed_other, change_of}
use Rattle.pt_cases.proofs.SameTargets.{Fitting, fitting_linked, one_of_each}
use Rattle.pt_cases.proofs.Tables.{mbr_changes, no_cause}

module _ (b : ℕ) (d : Sectors) (o : Option Layout) (p : Layout) (records : List (Option Record)) (chain : List Ebr) (phases : List Writes)
    (fits : Fitting b d o p) (is : IsWithinMbr b d o p records chain phases) where
  abbrev last : Writes
  last = one_write is.loud.0 is.loud.1

  abbrev all : Writes
  all = is.quiet ++ last

  was : HadMbr o
  was = record { old = is.old; records = is.old_records; chain = is.old_chain; is_old = is.is_old; body = is.old_body }

  linked : IsLoneChain (length d) (extended_of records) chain
  linked = fitting_linked b d o p records chain fits is.body

  plan_has : MbrHas b d o p is.old_records is.old_chain records chain (ComesToHold d all)
  plan_has = mbr_met_has b d o p is.old_records is.old_chain records chain all is.met

  listed : (ts : List (Target b)) → TargetsOf b d o p ts → TargetsIn b d o p (Mbr records chain) ts
  listed ts are = subst (λ (y : Body). TargetsIn b d o p y ts) is.body are

  list_has : (ts : List (Target b)) → TargetsOf b d o p ts → MbrHas b d o p is.old_records is.old_chain records chain (Held d ts)
  unfolding was
  list_has ts are = targets_have b d o p records chain was ts (listed ts are)

  -- what is to stand where it doesn't is written
  end_put : (s : ℕ) (v : List ℕ) → ComesToHold d all s v → v ≢ sector d s → Puts all s v
  end_put s v (inl puts) differs = puts
  end_put s v (inr (same, never)) differs = absurd (differs same)

  -- a target that changes is written
  change_put : (ts : List (Target b)) (t : Target b) → TargetsOf b d o p ts → IsChange ts t → (v : List ℕ) × Puts all t.at.0 v
  change_put ts t are change =
      let needed = target_needed b d o p records chain ts t (listed ts are) change.0 in
      let has = list_has ts are in
      let pair =
      mbr_pair b d o p is.old_records is.old_chain records chain (Held d ts) (ComesToHold d all) fits.four linked has plan_has t.at.0
      needed in
      let x = changed_other b d ts t (ComesToHold d all) (one_of_each b d o p ts fits are) change pair in
      (x.0, end_put t.at.0 x.0 x.1 x.2)

  loud_put : Puts all is.loud.0 is.loud.1
  loud_put = puts_right is.quiet last is.loud.0 is.loud.1 (inl (refl, refl))

  -- what comes to stand in the last sector isn't there yet
  put_differs : (v : List ℕ) → ComesToHold d all is.loud.0 v → v ≢ sector d is.loud.0
  put_differs v (inl puts) same = (is.each is.loud.0 v puts).1 same
  put_differs v (inr (there, never)) same = never is.loud.1 loud_put

  -- a target changes with which the disk turns
  loud_change : (ts : List (Target b)) → TargetsOf b d o p ts → (t : Target b) × IsChange ts t × (t.at.0 ≡ is.loud.0)
  loud_change ts are =
      let needed : IsNeeded b p chain is.loud.0 = (is.each is.loud.0 is.loud.1 loud_put).0 in
      let also = list_has ts are in
      let pair =
      mbr_pair b d o p is.old_records is.old_chain records chain (ComesToHold d all) (Held d ts) fits.four linked plan_has also is.loud.0
      needed in
      change_of b d ts is.loud.0 pair.second pair.also (pair.alike (put_differs pair.first pair.has))

  mbr : IsMbrDisk d
  mbr = (subst (BodyIs b d) is.old_body (subst (Denotes b d) is.is_old is.common.from).1).0.0

  loud_guarded : IsGuarded b d is.loud.0
  loud_guarded = reads_guarded b d is.loud.0 mbr is.read

  -- and no other one is guarded
  put_loud : (s : ℕ) (v : List ℕ) → Puts all s v → IsGuarded b d s → s ≡ is.loud.0
  put_loud s v puts guarded = ⊎_elim
      (λ quiet. absurd (is.unread s v quiet (guarded_reads b d s guarded)))
      (λ loud. one_is is.loud.0 s is.loud.1 v loud)
      (puts_split is.quiet last s v puts)

  -- so the turn is one
  within_turns : ¬ TurnsAmiss b d o p
  within_turns (ts, are, free, inl none) = (let t = loud_change ts are in none t.0 t.1 (subst (IsGuarded b d) (sym t.2) loud_guarded))
  within_turns (ts, are, free, inr (t, u, first, second, g, h, less)) =
      let low = change_put ts t are first in
      let high = change_put ts u are second in
      omega (arith, less, put_loud t.at.0 low.0 low.1 g, put_loud u.at.0 high.0 high.1 h)

  no_copies : ¬ WritesBoth o p
  no_copies both = (let two : Gpt both.table ≡ Mbr records chain = sym both.body ∙ is.body in cc)

  -- so nothing keeps such a plan from having one switch
  pub within_switch : ¬ HasNoSwitch b d o p
  within_switch (unreadable x) = fits.readable x
  within_switch (unmade others links same old none) = fits.made others links same old none
  within_switch (turn (inl x)) = within_turns x
  within_switch (turn (inr shares)) = fits.apart shares
  within_switch (copies (inl x)) = no_copies x.both
  within_switch (copies (inr shares)) = fits.apart shares

  -- all of it is written in the phases
  in_phases : (s : ℕ) (v : List ℕ) → Puts all s v → Puts (writes_in phases) s v
  in_phases s v puts = ⊎_elim
      (λ one. subst (λ (ps : List Writes). Puts (writes_in ps) s v) (sym one.1) (subst (λ (q : Writes). Puts (q ++ last) s v) one.0 puts))
      (λ two. subst (λ (ps : List Writes). Puts (writes_in ps) s v) (sym two.1) puts)
      is.is

  -- and nothing that it would write is owned
  pub within_frees : ¬ IsReused b d o p
  within_frees (s, cause.both both x, owned) = no_copies both
  within_frees (s, cause.target ts t are change at, owned) =
      let put = change_put ts t are change in
      is.common.free s put.0 (in_phases s put.0 (subst (λ (k : ℕ). Puts all k put.0) at put.1)) owned

-- a layout that fits and has a plan
module _ (b : ℕ) (d : Sectors) (o : Option Layout) (p : Layout) (phases : List Writes) (from : Denotes b d o) (fits : Fitting b d o p)
    (not_done : ¬ IsHealthy b d p) where
  -- each plan has one switch
  planned_switch : IsPlan b d p phases → ¬ HasNoSwitch b d o p
  planned_switch plan cause = no_plan_has b d o p phases from (λ (x : Option Layout). Fitting b d x p × HasNoSwitch b d x p) not_done
      (λ q t is why. backup_first_switch b d q p t phases is why.1)
      (λ q t is why. primary_first_switch b d q p t phases is why.1)
      (λ q t is why. from_mbr_switch b d q p t phases is (mbr_changes b d q p t phases is) why.1)
      (λ q t is why. label_switch b d q p t phases is why.1)
      (λ q records chain is why. within_switch b d q p records chain phases why.0 is why.1)
      plan (fits, cause)

  -- and writes nothing that is owned
  planned_frees : IsPlan b d p phases → ¬ IsReused b d o p
  planned_frees plan cause = no_plan_has b d o p phases from (λ (x : Option Layout). Fitting b d x p × IsReused b d x p) not_done
      (λ q t is why. backup_first_frees b d q p t phases is why.1)
      (λ q t is why. primary_first_frees b d q p t phases is why.1)
      (λ q t is why. from_mbr_frees b d q p t phases is (mbr_changes b d q p t phases is) why.1)
      (λ q t is why. label_frees b d q p t phases is why.1)
      (λ q records chain is why. within_frees b d q p records chain phases why.0 is why.1)
      plan (fits, cause)

-- so, where a layout that fits has a plan, what the planner may tell is a failure
pub planned_no_error_lem : (b : ℕ) (d : Sectors) (o : Option Layout) (p : Layout) (phases : List Writes) (e : PlanError) → Denotes b d o
    → (Sound b p → Fitting b d o p) → IsPlan b d p phases → Unplanned b d p e → IsFailure e
planned_no_error_lem b d o p phases (Unsound f) from fits plan is = planned_is_sound b d p phases f plan is
planned_no_error_lem b d o p phases NeedsRepair from fits plan is = planned_needs_no_repair b d p phases plan is
planned_no_error_lem b d o p phases NotOneSwitch from fits plan is =
    let why = subst (λ (x : Option Layout). NoSwitch b d x p) (denotes_one_lem b d is.old o is.from from) is.cause in
    no_cause b d o p phases from plan (planned_switch b d o p phases from (fits is.sound) is.not_done plan) why
planned_no_error_lem b d o p phases ReusedInOneBatch from fits plan is =
    let why = subst (λ (x : Option Layout). IsReused b d x p) (denotes_one_lem b d is.old o is.from from) is.cause.1 in
    planned_frees b d o p phases from (fits is.sound) is.not_done plan why
planned_no_error_lem b d o p phases (Device fault) from fits plan is = tt
planned_no_error_lem b d o p phases Memory from fits plan is = tt
