-- What has a plan is sound, of its disk, and can be read back.
use Rattle.std.proofs.Common.{◌⊎◌, inl, inr, ⊎_elim, ℕ, List, ◌++◌, Option, Some, sym, subst}
use Rattle.pt_sector.specs.Sectors.{Sectors, Writes}
use Rattle.pt_bsd.specs.declared.label.Label.{Label}
use Rattle.pt_recover.specs.Denotes.{Denotes}
use Rattle.pt_members.specs.Members.{places_of}
use Rattle.pt_recover.proofs.Terms.{denotes_one_lem}
use Rattle.pt_members.specs.declared.layout.Layout.{Layout}
use Rattle.pt_members.specs.declared.layout.Slice.{Slice}
use Rattle.pt_layout.specs.Healthy.{IsHealthy}
use Rattle.pt_members.specs.Tables.{HasFour}
use Rattle.pt_layout.specs.declared.sound.finding.Finding.{Finding}
use Rattle.pt_cases.specs.Cases.{IsPlan, idle, backup_first, primary_first, from_mbr, one_label, within_mbr}
use Rattle.pt_cases.proofs.Causes.{plan_none_left, plan_not_unsound, plan_of_whole}
use Rattle.pt_cases.specs.Writes.{one_write, Met, LabelsMet}
use Rattle.pt_cases.proofs.MetLemmas.{labels_set_met}
use Rattle.pt_cases.proofs.Ascending.{places_ascend_lem}
use Rattle.pt_cases.proofs.Along.{along_label, along_map}
use Rattle.pt_cases.specs.declared.targets.error.PlanError.TheVariants.{NeedsRepair, Unsound}
use Rattle.pt_cases.specs.Unplanned.{LabelsFit, HasUnreadable, Unplanned}
use Rattle.pt_cases.proofs.Own.{own_fit, own_readable}

-- where there is a plan nothing is unsound, and no foreign label would remain
pub planned_is_sound : (b : ℕ) (d : Sectors) (p : Layout) (phases : List Writes) (f : Finding) → IsPlan b d p phases
    → ¬ Unplanned b d p (Unsound f)
planned_is_sound b d p phases f plan (inl unsound) = plan_not_unsound b d p phases f plan unsound
planned_is_sound b d p phases f plan (inr foreign) = plan_none_left b d p phases foreign.first.slice plan foreign.first.left

-- and no repair has to come first
pub planned_needs_no_repair : (b : ℕ) (d : Sectors) (p : Layout) (phases : List Writes) → IsPlan b d p phases
    → ¬ Unplanned b d p NeedsRepair
planned_needs_no_repair b d p phases plan is =
    let why = is.cause.1 in
    plan_of_whole b d is.old p phases why.finding is.from why.changes why.broken plan

-- how a plan's labels come out on a disk that denotes o
pub record MeetsLabels (b : ℕ) (d : Sectors) (o : Option Layout) (p : Layout) : Type 0 where
  pub writes : Writes
  pub four : HasFour p.body
  pub met : LabelsMet b d o p writes

labels_fit : (b : ℕ) (d : Sectors) (o : Option Layout) (p : Layout) → MeetsLabels b d o p → LabelsFit b p
labels_fit b d o p is =
    along_map (Met b d o is.writes) (λ (w : Slice) (l : Option Label). Unit {0}) (places_of b p.sectors p.body) p.labels
    (λ w l it. tt) is.met

pub labels_readable : (b : ℕ) (d : Sectors) (o : Option Layout) (p : Layout) → MeetsLabels b d o p → ¬ HasUnreadable b d o p
labels_readable b d o p is unreadable =
    let it =
    along_label (Met b d o is.writes) 1 (places_of b p.sectors p.body) p.labels unreadable.slice unreadable.label
    (places_ascend_lem b p.sectors p.body is.four) is.met unreadable.stands unreadable.wanted in
    unreadable.none it.0 it.1

meets_so : (b : ℕ) (d : Sectors) (q o : Option Layout) (p : Layout) (ws : Writes) → Denotes b d q → Denotes b d o → HasFour p.body
    → LabelsMet b d q p ws → MeetsLabels b d o p
meets_so b d q o p ws first second four met =
    record {
      writes = ws;
      four = four;
      met = subst (λ (x : Option Layout). LabelsMet b d x p ws) (denotes_one_lem b d q o first second) met;
    }

-- a plan meets them, or the disk is healthy already
plan_meets : (b : ℕ) (d : Sectors) (o : Option Layout) (p : Layout) (phases : List Writes) → Denotes b d o → IsPlan b d p phases
    → IsHealthy b d p ⊎ MeetsLabels b d o p
plan_meets b d o p phases from (idle healthy none) = inl healthy
plan_meets b d o p phases from (backup_first q t is) =
    inr (meets_so b d q o p is.copies.labels is.common.from from (subst HasFour (sym is.copies.body) tt)
    (labels_set_met b d q p is.copies.labels is.copies.writes))
plan_meets b d o p phases from (primary_first q t is) =
    inr (meets_so b d q o p is.copies.labels is.common.from from (subst HasFour (sym is.copies.body) tt)
    (labels_set_met b d q p is.copies.labels is.copies.writes))
plan_meets b d o p phases from (from_mbr q t is) =
    inr (meets_so b d q o p is.copies.labels is.common.from from (subst HasFour (sym is.copies.body) tt)
    (labels_set_met b d q p is.copies.labels is.copies.writes))
plan_meets b d o p phases from (one_label q t is) =
    inr (meets_so b d q o p (one_write is.loud.0 is.loud.1) is.common.from from (subst HasFour (sym is.body) tt) is.met)
plan_meets b d o p phases from (within_mbr q records chain is) =
    inr (meets_so b d q o p (is.quiet ++ one_write is.loud.0 is.loud.1) is.common.from from
    (subst HasFour (sym is.body) is.met.head.1.records.four) is.met.labels)

-- so its labels go with its slices, and each of them is read back from what comes to stand there
pub planned_fits : (b : ℕ) (d : Sectors) (o : Option Layout) (p : Layout) (phases : List Writes) → Denotes b d o → IsPlan b d p phases
    → LabelsFit b p
planned_fits b d o p phases from plan =
    ⊎_elim (λ healthy. own_fit b d p healthy.denotes) (λ is. labels_fit b d o p is) (plan_meets b d o p phases from plan)

pub planned_readable : (b : ℕ) (d : Sectors) (o : Option Layout) (p : Layout) (phases : List Writes) → Denotes b d o
    → IsPlan b d p phases → ¬ HasUnreadable b d o p
planned_readable b d o p phases from plan unreadable = ⊎_elim
    (λ healthy. own_readable b d p healthy.denotes
    (subst (λ (x : Option Layout). HasUnreadable b d x p) (denotes_one_lem b d o (Some p) from healthy.denotes) unreadable))
    (λ is. labels_readable b d o p is unreadable)
    (plan_meets b d o p phases from plan)
