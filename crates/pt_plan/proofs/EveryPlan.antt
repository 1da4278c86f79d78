-- Every plan lands, is accepted, and ends as it has to.
use Rattle.std.proofs.Common.{◌≡◌, ℕ, List, [], ◌++◌, ◌+◌, refl, sym, ap, subst, Option, Some, inl, inr, length, arith, None, ◌∙◌, ⊎_elim}
use Rattle.std.specs.Prelude.{Contains}
use Rattle.pt_sector.specs.Sectors.{Sectors, sector, IsSectorSize, Writes, after, Puts}
use Rattle.pt_bsd.specs.declared.label.Label.{Label}
use Rattle.pt_recover.specs.Denotes.{Denotes, LabelAt, LabelsAre, Reads}
use Rattle.pt_recover.proofs.Terms.{denotes_one_lem}
use Rattle.pt_members.specs.Members.{places_of, place_of, IsPlace}
use Rattle.pt_members.specs.declared.layout.Layout.{Layout}
use Rattle.pt_members.specs.declared.layout.Slice.{Slice}
use Rattle.pt_members.specs.Tables.{HasFour}
use Rattle.pt_plan.proofs.BackupFirst.{backup_first_ended, backup_first_lands, kept_backup_first_ended, kept_backup_first_lands}
use Rattle.pt_plan.proofs.PrimaryFirst.{primary_first_ended, primary_first_lands, kept_primary_first_ended, kept_primary_first_lands}
use Rattle.pt_plan.proofs.FromMbr.{from_mbr_ended, from_mbr_lands}
use Rattle.pt_plan.proofs.OneLabel.{one_label_ended, one_label_lands}
use Rattle.pt_cases.specs.NewMbr.{emptied, IsNewMbr}
use Rattle.pt_plan.proofs.NewLabels.{new_mbr_holds}
use Rattle.pt_plan.proofs.NewMbr.{new_mbr_lands}
use Rattle.pt_plan.proofs.WithinMbr.{within_mbr_ended, within_mbr_lands}
use Rattle.pt_cases.specs.Cases.{IsPlan, idle, backup_first, primary_first, from_mbr, one_label, within_mbr}
use Rattle.pt_cases.specs.Keeps.{StandsOn}
use Rattle.pt_cases.proofs.StandsOn.{along_labels_are, denoted_four}
use Rattle.pt_cases.specs.Writes.{one_write, ComesToHold, kept, Met, LabelsMet}
use Rattle.pt_cases.proofs.Frames.{is_place}
use Rattle.pt_cases.proofs.MetLemmas.{labels_set_met}
use Rattle.pt_cases.proofs.Ascending.{places_ascend_lem}
use Rattle.pt_cases.proofs.Along.{along_label}
use Rattle.pt_cases.specs.Kept.{IsPlanBy, KeptOf}
use Rattle.pt_cases.specs.declared.primary.Primary.{Primary as Choice}
use Rattle.pt_cases.specs.declared.primary.Primary.TheVariants.{Zeroed, Kept}
use Rattle.pt_plan.specs.Commits.{HoldsTarget, Lands, turn_of, turn_of_kept, turn_by}
use Rattle.pt_layout.specs.Healthy.{IsHealthy}
use Rattle.pt_check.proofs.Accepted.{accepted_lem}
use Rattle.pt_check.specs.Answers.{Answers}
use Rattle.pt_check.proofs.Terms.{answer_is_one_lem}
use Rattle.pt_check.specs.declared.answer.Answer.TheVariants.{Yes, No}
use Rattle.pt_check.specs.declared.answer.Why.{Why}
use Rattle.pt_check.proofs.Walk.{stays_is_course}
use Rattle.std.proofs.lemmas.List.{ext_get_or}
use Rattle.pt_sector.specs.Device.{Told, MayLeave}
use Rattle.pt_apply.specs.Plans.{Settled}

-- ## What the label places of the wanted layout hold once a plan is done.

module _ (b : ℕ) (d : Sectors) (o : Option Layout) (p : Layout) (phases : List Writes) (w : Slice) (l : Label)
    (stands : Contains (places_of b p.sectors p.body) w)
    (wanted : Contains p.labels (record { number = w.number; label = l })) where
  held_by : (ws : Writes) → HasFour p.body → LabelsMet b d o p ws
      → ((s : ℕ) (v : List ℕ) → IsPlace (places_of b p.sectors p.body) s → ComesToHold d ws s v → sector (after phases d) s ≡ v)
      → HoldsTarget b d o phases w l
  held_by ws four met ended =
      let it =
      along_label (Met b d o ws) 1 (places_of b p.sectors p.body) p.labels w l
      (places_ascend_lem b p.sectors p.body four) met stands wanted in
      record { bytes = it.0; target = it.1; held = ended (place_of w) it.0 (is_place (places_of b p.sectors p.body) w stands) it.2 }

  held_already : Denotes b d (Some p) → o ≡ Some p → phases ≡ [] → HoldsTarget b d o phases w l
  held_already denotes same none =
      let are : LabelsAre d (places_of b p.sectors p.body) p.labels =
      subst (λ (n : ℕ). LabelsAre d (places_of b n p.body) p.labels) (sym denotes.0) denotes.2 in
      let label : LabelAt d w l =
      along_label (StandsOn d) 1 (places_of b p.sectors p.body) p.labels w l
      (places_ascend_lem b p.sectors p.body (denoted_four b d p.body denotes.1))
      (along_labels_are d (places_of b p.sectors p.body) p.labels are) stands wanted in
      record {
        bytes = sector d (place_of w);
        target = kept (
          p,
          same,
          record {
            slice = w;
            stands = subst (λ (n : ℕ). Contains (places_of b n p.body) w) denotes.0 stands;
            place = refl;
            label = label;
          },
        ) label refl;
        held = ap (λ (ps : List Writes). sector (after ps d) (place_of w)) none;
      }

zeroed_labels : (b : ℕ) (d : Sectors) (o : Option Layout) (p : Layout) (phases : List Writes) (w : Slice) (l : Label) → IsSectorSize b
    → Denotes b d o → IsPlan b d p phases
    → Contains (places_of b p.sectors p.body) w → Contains p.labels (record { number = w.number; label = l }) → HoldsTarget b d o phases w l
zeroed_labels b d o p phases w l size from (idle healthy none) stands wanted =
    held_already b d o p phases w l stands wanted healthy.denotes (denotes_one_lem b d o (Some p) from healthy.denotes) none
zeroed_labels b d o p phases w l size from (backup_first q t is) stands wanted =
    subst (λ (x : Option Layout). HoldsTarget b d x phases w l) (denotes_one_lem b d q o is.common.from from)
    (held_by b d q p phases w l stands wanted is.copies.labels (subst HasFour (sym is.copies.body) tt)
    (labels_set_met b d q p is.copies.labels is.copies.writes) (backup_first_ended b d q p t phases size is))
zeroed_labels b d o p phases w l size from (primary_first q t is) stands wanted =
    subst (λ (x : Option Layout). HoldsTarget b d x phases w l) (denotes_one_lem b d q o is.common.from from)
    (held_by b d q p phases w l stands wanted is.copies.labels (subst HasFour (sym is.copies.body) tt)
    (labels_set_met b d q p is.copies.labels is.copies.writes) (primary_first_ended b d q p t phases size is))
zeroed_labels b d o p phases w l size from (from_mbr q t is) stands wanted =
    subst (λ (x : Option Layout). HoldsTarget b d x phases w l) (denotes_one_lem b d q o is.common.from from)
    (held_by b d q p phases w l stands wanted is.copies.labels (subst HasFour (sym is.copies.body) tt)
    (labels_set_met b d q p is.copies.labels is.copies.writes) (from_mbr_ended b d q p t phases size is))
zeroed_labels b d o p phases w l size from (one_label q t is) stands wanted =
    subst (λ (x : Option Layout). HoldsTarget b d x phases w l) (denotes_one_lem b d q o is.common.from from)
    (held_by b d q p phases w l stands wanted (one_write is.loud.0 is.loud.1) (subst HasFour (sym is.body) tt) is.met
    (one_label_ended b d q p t phases size is))
zeroed_labels b d o p phases w l size from (within_mbr q records chain is) stands wanted =
    subst (λ (x : Option Layout). HoldsTarget b d x phases w l) (denotes_one_lem b d q o is.common.from from)
    (held_by b d q p phases w l stands wanted (is.quiet ++ one_write is.loud.0 is.loud.1)
    (subst HasFour (sym is.body) is.met.head.1.records.four) is.met.labels (within_mbr_ended b d q p records chain phases is))

kept_labels : (b : ℕ) (d : Sectors) (o : Option Layout) (p : Layout) (full phases : List Writes) (w : Slice) (l : Label) → IsSectorSize b
    → Denotes b d o → (plan : IsPlan b d p full) → KeptOf plan phases
    → Contains (places_of b p.sectors p.body) w → Contains p.labels (record { number = w.number; label = l }) → HoldsTarget b d o phases w l
kept_labels b d o p full phases w l size from (backup_first q t is) left stands wanted =
    subst (λ (x : Option Layout). HoldsTarget b d x phases w l) (denotes_one_lem b d q o is.common.from from)
    (held_by b d q p phases w l stands wanted is.copies.labels (subst HasFour (sym is.copies.body) tt)
    (labels_set_met b d q p is.copies.labels is.copies.writes) (kept_backup_first_ended b d q p t full size is phases left))
kept_labels b d o p full phases w l size from (primary_first q t is) left stands wanted =
    subst (λ (x : Option Layout). HoldsTarget b d x phases w l) (denotes_one_lem b d q o is.common.from from)
    (held_by b d q p phases w l stands wanted is.copies.labels (subst HasFour (sym is.copies.body) tt)
    (labels_set_met b d q p is.copies.labels is.copies.writes) (kept_primary_first_ended b d q p t full size is phases left))
kept_labels b d o p full phases w l size from (idle healthy none) same stands wanted =
    subst (λ (ps : List Writes). HoldsTarget b d o ps w l) (sym same)
    (zeroed_labels b d o p full w l size from (idle healthy none) stands wanted)
kept_labels b d o p full phases w l size from (from_mbr q t is) same stands wanted =
    subst (λ (ps : List Writes). HoldsTarget b d o ps w l) (sym same)
    (zeroed_labels b d o p full w l size from (from_mbr q t is) stands wanted)
kept_labels b d o p full phases w l size from (one_label q t is) same stands wanted =
    subst (λ (ps : List Writes). HoldsTarget b d o ps w l) (sym same)
    (zeroed_labels b d o p full w l size from (one_label q t is) stands wanted)
kept_labels b d o p full phases w l size from (within_mbr q records chain is) same stands wanted =
    subst (λ (ps : List Writes). HoldsTarget b d o ps w l) (sym same)
    (zeroed_labels b d o p full w l size from (within_mbr q records chain is) stands wanted)

-- what a plan starts from
from_of : (b : ℕ) (d : Sectors) (p : Layout) (phases : List Writes) → IsPlan b d p phases → (o : Option Layout) × Denotes b d o
from_of b d p phases (idle healthy none) = (Some p, healthy.denotes)
from_of b d p phases (backup_first o t is) = (o, is.common.from)
from_of b d p phases (primary_first o t is) = (o, is.common.from)
from_of b d p phases (from_mbr o t is) = (o, is.common.from)
from_of b d p phases (one_label o t is) = (o, is.common.from)
from_of b d p phases (within_mbr o records chain is) = (o, is.common.from)

-- of an MBR where none was, by the plan on the emptied disk
labels_of_new : (b : ℕ) (d : Sectors) (p : Layout) (phases : List Writes) (w : Slice) (l : Label) → IsSectorSize b
    → (is : IsNewMbr b d p phases) → Contains (places_of b p.sectors p.body) w
    → Contains p.labels (record { number = w.number; label = l }) → HoldsTarget b d is.old phases w l
labels_of_new b d p phases w l size is stands wanted = new_mbr_holds b d p phases is w l stands (λ ps plan.
    let from = from_of b (emptied d) p ps plan in
    (from.0, from.1, zeroed_labels b (emptied d) from.0 p ps w l size from.1 plan stands wanted))

-- each label that is wanted stands at its place: as it stood, over the bytes of the one that was there, or over zeros
pub plan_labels : (b : ℕ) (d : Sectors) (o : Option Layout) (p : Layout) (phases : List Writes) (primary : Choice) (w : Slice) (l : Label)
    → IsSectorSize b → Denotes b d o → IsPlanBy primary b d p phases
    → Contains (places_of b p.sectors p.body) w → Contains p.labels (record { number = w.number; label = l }) → HoldsTarget b d o phases w l
plan_labels b d o p phases Zeroed w l size from is stands wanted = zeroed_labels b d o p phases w l size from is stands wanted
plan_labels b d o p phases Kept w l size from (inl is) stands wanted =
    kept_labels b d o p is.full phases w l size from is.plan is.kept stands wanted
plan_labels b d o p phases Kept w l size from (inr is) stands wanted =
    subst (λ (x : Option Layout). HoldsTarget b d x phases w l) (denotes_one_lem b d is.old o is.makes.from from)
    (labels_of_new b d p phases w l size is stands wanted)

-- ## Lemmas on specs/Commits.antt: every plan lands.

idle_lands : (b : ℕ) (d : Sectors) (o : Option Layout) (p : Layout) → Denotes b d o → IsHealthy b d p → Lands b d o p [] 0
idle_lands b d o p from healthy =
    let same : o ≡ Some p = denotes_one_lem b d o (Some p) from healthy.denotes in
    record {
      switch = 0;
      told = inl (same, refl);
      answers = accepted_lem b d [] o (Some p) None (record { few = omega arith; inside = λ k w at. absurd cc; boot = λ k w at. absurd cc })
          (record { from = from; to = healthy.denotes }) (stays_is_course (Denotes b) (Reads b) [] d o (Some p) from)
          (λ k w at. absurd cc) (λ k w at. absurd cc) (p, healthy);
      ends = healthy;
    }

zeroed_lands : (b : ℕ) (d : Sectors) (o : Option Layout) (p : Layout) (phases : List Writes) → IsSectorSize b → Denotes b d o
    → (is : IsPlan b d p phases) → Lands b d o p phases (turn_of is)
zeroed_lands b d o p phases size from (idle healthy none) =
    subst (λ (ps : List Writes). Lands b d o p ps 0) (sym none) (idle_lands b d o p from healthy)
zeroed_lands b d o p phases size from (backup_first q t is) =
    subst (λ (x : Option Layout). Lands b d x p phases 2) (denotes_one_lem b d q o is.common.from from)
    (backup_first_lands b d q p t phases size is)
zeroed_lands b d o p phases size from (primary_first q t is) =
    subst (λ (x : Option Layout). Lands b d x p phases 3) (denotes_one_lem b d q o is.common.from from)
    (primary_first_lands b d q p t phases size is)
zeroed_lands b d o p phases size from (from_mbr q t is) =
    subst (λ (x : Option Layout). Lands b d x p phases 2) (denotes_one_lem b d q o is.common.from from)
    (from_mbr_lands b d q p t phases size is)
zeroed_lands b d o p phases size from (one_label q t is) =
    subst (λ (x : Option Layout). Lands b d x p phases 1) (denotes_one_lem b d q o is.common.from from)
    (one_label_lands b d q p t phases size is)
zeroed_lands b d o p phases size from (within_mbr q records chain is) =
    subst (λ (x : Option Layout). Lands b d x p phases (length phases)) (denotes_one_lem b d q o is.common.from from)
    (within_mbr_lands b d q p records chain phases is)

pub kept_lands : (b : ℕ) (d : Sectors) (o : Option Layout) (p : Layout) (full phases : List Writes) → IsSectorSize b → Denotes b d o
    → (plan : IsPlan b d p full) → (left : KeptOf plan phases) → Lands b d o p phases (turn_of_kept phases plan left)
kept_lands b d o p full phases size from (backup_first q t is) left =
    subst (λ (x : Option Layout). Lands b d x p phases (length left.front + 1)) (denotes_one_lem b d q o is.common.from from)
    (kept_backup_first_lands b d q p t full size is phases left)
kept_lands b d o p full phases size from (primary_first q t is) left =
    subst (λ (x : Option Layout). Lands b d x p phases (length left.middle)) (denotes_one_lem b d q o is.common.from from)
    (kept_primary_first_lands b d q p t full size is phases left)
kept_lands b d o p full phases size from (idle healthy none) same =
    subst (λ (ps : List Writes). Lands b d o p ps 0) (sym same) (zeroed_lands b d o p full size from (idle healthy none))
kept_lands b d o p full phases size from (from_mbr q t is) same =
    subst (λ (ps : List Writes). Lands b d o p ps 2) (sym same) (zeroed_lands b d o p full size from (from_mbr q t is))
kept_lands b d o p full phases size from (one_label q t is) same =
    subst (λ (ps : List Writes). Lands b d o p ps 1) (sym same) (zeroed_lands b d o p full size from (one_label q t is))
kept_lands b d o p full phases size from (within_mbr q records chain is) same =
    subst (λ (ps : List Writes). Lands b d o p ps (length full)) (sym same)
    (zeroed_lands b d o p full size from (within_mbr q records chain is))

-- a plan of a disk is accepted, whatever the disk denotes, and the disk is healthy after it, with the layout wanted
pub plan_lands : (b : ℕ) (d : Sectors) (o : Option Layout) (p : Layout) (phases : List Writes) (primary : Choice) → IsSectorSize b
    → Denotes b d o → (is : IsPlanBy primary b d p phases) → Lands b d o p phases (turn_by primary b d p phases is)
plan_lands b d o p phases Zeroed size from is = zeroed_lands b d o p phases size from is
plan_lands b d o p phases Kept size from (inl is) = kept_lands b d o p is.full phases size from is.plan is.kept
plan_lands b d o p phases Kept size from (inr is) =
    subst (λ (x : Option Layout). Lands b d x p phases (length is.turning)) (denotes_one_lem b d is.old o is.makes.from from)
    (new_mbr_lands b d p phases is)

-- so its end is healthy, and no reason of the checker's holds against it
pub from_by : (b : ℕ) (d : Sectors) (p : Layout) (phases : List Writes) (primary : Choice) → IsPlanBy primary b d p phases
    → (o : Option Layout) × Denotes b d o
from_by b d p phases Zeroed is = from_of b d p phases is
from_by b d p phases Kept (inl is) = from_of b d p is.full is.plan
from_by b d p phases Kept (inr is) = (is.old, is.makes.from)

pub plan_finishes : (b : ℕ) (d : Sectors) (p : Layout) (phases : List Writes) (primary : Choice) → IsSectorSize b
    → IsPlanBy primary b d p phases → IsHealthy b (after phases d) p
plan_finishes b d p phases primary size is =
    let from = from_by b d p phases primary is in (plan_lands b d from.0 p phases primary size from.1 is).ends

pub plan_not_refused : (b : ℕ) (d : Sectors) (p : Layout) (phases : List Writes) (primary : Choice) (why : Why) → IsSectorSize b
    → IsPlanBy primary b d p phases → ¬ Answers b d phases (No why)
plan_not_refused b d p phases primary why size is against =
    let from = from_by b d p phases primary is in
    let lands = plan_lands b d from.0 p phases primary size from.1 is in
    answer_is_one_lem b d phases (Yes lands.switch) (No why) lands.answers against

-- ## A disk on which nothing is pending.

-- where nothing is pending a crash leaves one disk
pub settled_leaves : (now : Told) (d : Sectors) → Settled now d → (c : Sectors) → MayLeave now c → c ≡ d
settled_leaves now d settled c left =
    let len : length c ≡ length d = left.same_count ∙ ap length settled.durable in
    ext_get_or [] c d len (λ k lt. ⊎_elim
    (λ is. rw settled.durable at is)
    (λ puts. absurd (subst (λ (p : Writes). Puts p k (sector c k)) settled.pending puts))
    (left.each k (omega (arith, lt, left.same_count))))
