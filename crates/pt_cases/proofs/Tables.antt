-- A plan of a GPT and an error of the planner exclude each other.
use Rattle.std.proofs.Common.{◌≡◌, ◌∙◌, ℕ, List, Option, Some, sym, subst}
use Rattle.pt_sector.specs.Sectors.{Sectors, Writes}
use Rattle.pt_gpt.specs.declared.table.Table.{Table}
use Rattle.pt_mbr.specs.declared.ebr.Ebr.{Ebr}
use Rattle.pt_mbr.specs.declared.record.Record.{Record}
use Rattle.pt_recover.specs.Denotes.{Denotes, BodyIs}
use Rattle.pt_recover.proofs.Terms.{denotes_one_lem}
use Rattle.pt_members.specs.declared.layout.Body.TheVariants.{Mbr, Gpt}
use Rattle.pt_members.specs.declared.layout.Layout.{Layout}
use Rattle.pt_layout.specs.Healthy.{IsHealthy, IsBodyWhole}
use Rattle.pt_cases.specs.Cases.{IsPlan, one_label, ChangesLabels, IsFromMbr, IsOneLabel, IsWithinMbr}
use Rattle.pt_cases.proofs.Causes.{plan_may_be, plan_none_left}
use Rattle.pt_cases.specs.Unplanned.{WritesBoth, IsReused, NoSwitch, other_disk, misplaced, targets, HasNoSwitch, Unplanned}
use Rattle.pt_cases.specs.declared.targets.error.PlanError.TheVariants.{NotOneSwitch, ReusedInOneBatch}
use Rattle.pt_cases.proofs.Both.{backup_first_switch, primary_first_switch, from_mbr_switch, backup_first_frees, primary_first_frees}
use Rattle.pt_cases.proofs.Both.{from_mbr_frees}
use Rattle.pt_cases.proofs.EachCase.{no_plan_has}
use Rattle.pt_cases.proofs.Own.{foreign_left}
use Rattle.pt_cases.proofs.Planned.{planned_fits}

-- from an MBR no labels change alone
pub mbr_changes : (b : ℕ) (d : Sectors) (o : Option Layout) (p : Layout) (t : Table) (phases : List Writes) → IsFromMbr b d o p t phases
    → ¬ ChangesLabels o p
mbr_changes b d o p t phases is changes =
    let there : BodyIs b d (Gpt t) =
    subst (BodyIs b d) (changes.same ∙ is.copies.body) (subst (Denotes b d) changes.is_old is.common.from).1 in
    there.0 is.mbr

-- one label changes where the labels differ
pub label_changes : (b : ℕ) (d : Sectors) (o : Option Layout) (p : Layout) (t : Table) (phases : List Writes)
    → IsOneLabel b d o p t phases → ChangesLabels o p
label_changes b d o p t phases is = record {
  old = is.old;
  is_old = is.is_old;
  same = is.same;
  differ = λ alike. is.common.not_done (healthy alike);
} where
  from : Denotes b d (Some is.old)
  from = subst (Denotes b d) is.is_old is.common.from

  layouts : is.old.labels ≡ p.labels → is.old ≡ p
  layouts alike = λ i. record { sectors = (from.0 ∙ sym is.common.sectors) i; body = is.same i; labels = alike i }

  healthy : is.old.labels ≡ p.labels → IsHealthy b d p
  healthy alike =
      let denotes : Denotes b d (Some p) = subst (λ (l : Layout). Denotes b d (Some l)) (layouts alike) from in
      record {
        denotes = denotes;
        sound = is.common.sound;
        whole = subst (IsBodyWhole b d) is.same is.whole;
        no_foreign = λ n foreign. (let left = foreign_left b d p denotes n foreign in
            plan_none_left b d p phases left.0 (one_label o t is) left.1);
      }

-- what writes both copies and has a plan
module _ (b : ℕ) (d : Sectors) (o : Option Layout) (p : Layout) (phases : List Writes) (from : Denotes b d o)
    (not_done : ¬ IsHealthy b d p) (both : WritesBoth o p) where
  no_gpt : (q : Option Layout) (records : List (Option Record)) (chain : List Ebr) → IsWithinMbr b d q p records chain phases
      → ¬ WritesBoth q p
  no_gpt q records chain is both = (let two : Gpt both.table ≡ Mbr records chain = sym both.body ∙ is.body in cc)

  both_switch : IsPlan b d p phases → ¬ HasNoSwitch b d o p
  both_switch plan cause = no_plan_has b d o p phases from (λ (x : Option Layout). WritesBoth x p × HasNoSwitch b d x p) not_done
      (λ q t is why. backup_first_switch b d q p t phases is why.1)
      (λ q t is why. primary_first_switch b d q p t phases is why.1)
      (λ q t is why. from_mbr_switch b d q p t phases is (mbr_changes b d q p t phases is) why.1)
      (λ q t is why. why.0.other (label_changes b d q p t phases is))
      (λ q records chain is why. no_gpt q records chain is why.0)
      plan (both, cause)

  both_frees : IsPlan b d p phases → ¬ IsReused b d o p
  both_frees plan cause = no_plan_has b d o p phases from (λ (x : Option Layout). WritesBoth x p × IsReused b d x p) not_done
      (λ q t is why. backup_first_frees b d q p t phases is why.1)
      (λ q t is why. primary_first_frees b d q p t phases is why.1)
      (λ q t is why. from_mbr_frees b d q p t phases is (mbr_changes b d q p t phases is) why.1)
      (λ q t is why. why.0.other (label_changes b d q p t phases is))
      (λ q records chain is why. no_gpt q records chain is why.0)
      plan (both, cause)

-- where a plan has one switch, nothing speaks against it
pub no_cause : (b : ℕ) (d : Sectors) (o : Option Layout) (p : Layout) (phases : List Writes) → Denotes b d o → IsPlan b d p phases
    → ¬ HasNoSwitch b d o p → ¬ NoSwitch b d o p
no_cause b d o p phases from plan none (other_disk isnt) = isnt (plan_may_be b d o p phases from plan)
no_cause b d o p phases from plan none (misplaced isnt) = isnt (planned_fits b d o p phases from plan)
no_cause b d o p phases from plan none (targets left is) = none is

-- a plan of both copies has one switch
pub both_planned_switch : (b : ℕ) (d : Sectors) (o : Option Layout) (p : Layout) (phases : List Writes) → Denotes b d o
    → IsPlan b d p phases → WritesBoth o p → ¬ Unplanned b d p NotOneSwitch
both_planned_switch b d o p phases from plan both is =
    let why = subst (λ (x : Option Layout). NoSwitch b d x p) (denotes_one_lem b d is.old o is.from from) is.cause in
    no_cause b d o p phases from plan (both_switch b d o p phases from is.not_done both plan) why

-- and writes no sector that is owned
pub both_planned_frees : (b : ℕ) (d : Sectors) (o : Option Layout) (p : Layout) (phases : List Writes) → Denotes b d o
    → IsPlan b d p phases → WritesBoth o p → ¬ Unplanned b d p ReusedInOneBatch
both_planned_frees b d o p phases from plan both is =
    both_frees b d o p phases from is.not_done both plan
    (subst (λ (x : Option Layout). IsReused b d x p) (denotes_one_lem b d is.old o is.from from) is.cause.1)
