-- A plan that changes a label of a GPT and an error of the planner exclude each other.
use Rattle.std.proofs.Common.{◌≡◌, ◌∙◌, ℕ, List, Option, sym, subst}
use Rattle.pt_sector.specs.Sectors.{Sectors, Writes}
use Rattle.pt_gpt.specs.declared.table.Table.{Table}
use Rattle.pt_recover.specs.Denotes.{Denotes}
use Rattle.pt_recover.proofs.Terms.{denotes_one_lem}
use Rattle.pt_members.specs.declared.layout.Body.TheVariants.{Mbr, Gpt}
use Rattle.pt_members.specs.declared.layout.Layout.{Layout}
use Rattle.pt_layout.specs.Healthy.{IsHealthy}
use Rattle.pt_cases.specs.Cases.{IsPlan, ChangesLabels}
use Rattle.pt_cases.specs.Unplanned.{IsReused, NoSwitch, HasNoSwitch, Unplanned}
use Rattle.pt_cases.specs.declared.targets.error.PlanError.TheVariants.{NotOneSwitch, ReusedInOneBatch}
use Rattle.pt_cases.proofs.EachCase.{no_plan_has}
use Rattle.pt_cases.proofs.OneLabel.{label_switch, label_frees}
use Rattle.pt_cases.proofs.Tables.{mbr_changes, no_cause}

module _ (b : ℕ) (d : Sectors) (o : Option Layout) (p : Layout) (t : Table) (phases : List Writes) (from : Denotes b d o)
    (not_done : ¬ IsHealthy b d p) (changes : ChangesLabels o p) (body : p.body ≡ Gpt t) where
  one_switch : IsPlan b d p phases → ¬ HasNoSwitch b d o p
  one_switch plan cause = no_plan_has b d o p phases from (λ (x : Option Layout). ChangesLabels x p × HasNoSwitch b d x p) not_done
      (λ q u is why. is.other why.0)
      (λ q u is why. is.other why.0)
      (λ q u is why. mbr_changes b d q p u phases is why.0)
      (λ q u is why. label_switch b d q p u phases is why.1)
      (λ q records chain is why. (let two : Gpt t ≡ Mbr records chain = sym body ∙ is.body in cc))
      plan (changes, cause)

  one_frees : IsPlan b d p phases → ¬ IsReused b d o p
  one_frees plan cause = no_plan_has b d o p phases from (λ (x : Option Layout). ChangesLabels x p × IsReused b d x p) not_done
      (λ q u is why. is.other why.0)
      (λ q u is why. is.other why.0)
      (λ q u is why. mbr_changes b d q p u phases is why.0)
      (λ q u is why. label_frees b d q p u phases is why.1)
      (λ q records chain is why. (let two : Gpt t ≡ Mbr records chain = sym body ∙ is.body in cc))
      plan (changes, cause)

-- such a plan has one switch
pub change_has_switch : (b : ℕ) (d : Sectors) (o : Option Layout) (p : Layout) (t : Table) (phases : List Writes) → Denotes b d o
    → IsPlan b d p phases → ChangesLabels o p → p.body ≡ Gpt t → ¬ Unplanned b d p NotOneSwitch
change_has_switch b d o p t phases from plan changes body is =
    let why = subst (λ (x : Option Layout). NoSwitch b d x p) (denotes_one_lem b d is.old o is.from from) is.cause in
    no_cause b d o p phases from plan (one_switch b d o p t phases from is.not_done changes body plan) why

-- and writes no sector that is owned
pub change_frees : (b : ℕ) (d : Sectors) (o : Option Layout) (p : Layout) (t : Table) (phases : List Writes) → Denotes b d o
    → IsPlan b d p phases → ChangesLabels o p → p.body ≡ Gpt t → ¬ Unplanned b d p ReusedInOneBatch
change_frees b d o p t phases from plan changes body is =
    one_frees b d o p t phases from is.not_done changes body plan
    (subst (λ (x : Option Layout). IsReused b d x p) (denotes_one_lem b d is.old o is.from from) is.cause.1)
