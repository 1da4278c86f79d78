-- Phases of a plan, and the steps of a call.
use Rattle.std.proofs.Common.{◌≡◌, inl, inr, ⊎_elim, ℕ, zero, suc, ◌+◌, ◌-◌, ◌<◌, ◌≤◌, List, [], ◌∷◌, ◌++◌, length, replicate, refl, sym}
use Rattle.std.proofs.Common.{subst, arith, Option, length-append}
use Rattle.std.specs.Prelude.{◌≢◌, All, None}
use Rattle.std.proofs.lemmas.List.Elements.{All-nil, All-cons, All-append}
use Rattle.pt_sector.specs.Sectors.{Sectors, sector, IsSectorSize, Writes, Puts, IsAscending}
use Rattle.pt_gpt.specs.Copies.{array_len, array_sector, HasRoom}
use Rattle.pt_gpt.specs.declared.entry.Entry.{Entry}
use Rattle.pt_gpt.specs.declared.table.Table.{Table}
use Rattle.pt_gpt.specs.declared.table.Side.TheVariants.{Primary, Backup}
use Rattle.pt_members.specs.declared.layout.Layout.{Layout}
use Rattle.pt_layout.specs.Sound.{Sound}
use Rattle.pt_cases.specs.Cases.{IsPlan, idle, backup_first, primary_first, from_mbr, one_label, within_mbr, Copies, labels_and_backup}
use Rattle.pt_cases.specs.Cases.{primary_and_labels, copies_and_labels, within_mbr_phases}
use Rattle.pt_cases.specs.Writes.{array_writes, array_phase, one_write, closing, backup_phase, Protects}
use Rattle.pt_apply.proofs.Puts.{puts_split}
use Rattle.pt_cases.proofs.Frames.{puts_at, rises_in_tail, one_is}
use Rattle.pt_plan.proofs.Landings.{label_middle, primary_low, backup_high, array_few, backup_few}
use Rattle.pt_cases.proofs.Select.{Rises, rises_ascends}
use Rattle.pt_cases.proofs.Sides.{puts_array}
use Rattle.pt_cases.specs.NewMbr.{empty_head, emptied, IsNewMbr, IsTurning, filled, empty, Zeroes}
use Rattle.pt_cases.specs.Kept.{IsPlanBy, KeptOf}
use Rattle.pt_cases.specs.declared.primary.Primary.{Primary as Choice}
use Rattle.pt_cases.specs.declared.primary.Primary.TheVariants.{Zeroed, Kept}
use Rattle.pt_plan.proofs.Needing.{all_needed, all_primary}
use Rattle.pt_plan.specs.Commits.{IsPhase}
use Rattle.pt_recover.specs.Denotes.{Denotes}
use Rattle.pt_plan.specs.Batches.{Words, Makes}

-- ## The phases of a plan have writes, and these ascend.

ascends_rises : (ws : Writes) → IsAscending ws → Rises ws
ascends_rises [] ascending = tt
ascends_rises (w ∷ ws) ascending = (
  λ s v puts. let at = puts_at ws s v puts in let less = ascending 0 (suc at.0) (omega arith) (omega (arith, at.1)) in
      omega (arith, at.2, less),
  ascends_rises ws (rises_in_tail w ws ascending),
)

-- one after the other, where all of the first are below all of the second
rises_append : (a c : Writes) → Rises a → Rises c → ((s t : ℕ) (v x : List ℕ) → Puts a s v → Puts c t x → s < t) → Rises (a ++ c)
rises_append [] c first second below = second
rises_append (w ∷ a) c first second below = (
  λ s v puts. ⊎_elim (λ left. first.0 s v left) (λ right. below w.0 s w.1 v (inl (refl, refl)) right) (puts_split a c s v puts),
  rises_append a c first.1 second (λ s t v x left right. below s t v x (inr left) right),
)

one_rises : (k : ℕ) (v : List ℕ) → Rises (one_write k v)
one_rises k v = (λ s x puts. absurd puts, tt)

array_rises : (b : ℕ) (es : List (Option Entry)) (at k : ℕ) → Rises (array_writes b es at k)
unfolding array_writes
array_rises b es at zero = tt
array_rises b es at (suc k) =
    rises_append (array_writes b es at k) (one_write (at + k) (array_sector b es k)) (array_rises b es at k)
    (one_rises (at + k) (array_sector b es k))
    (λ s t v x left right. let low = puts_array b es at k s v left in let last = one_is (at + k) t (array_sector b es k) x right in
    omega (arith, low.high, last))

one_phase : (k : ℕ) (v : List ℕ) → IsPhase (one_write k v)
one_phase k v = record { some = omega arith; ascending = rises_ascends (one_write k v) (one_rises k v) }

last_phases : (n : ℕ) (old : List ℕ) (last : List Writes) → Protects n old last → All IsPhase last
last_phases n old last (inl (already, none)) = subst (All IsPhase) (sym none) (All-nil IsPhase)
last_phases n old last (inr (not_yet, (new, from, one))) =
    subst (All IsPhase) (sym one) (All-cons IsPhase (one_write 0 new) [] (one_phase 0 new) (All-nil IsPhase))

array_some : (b : ℕ) → IsSectorSize b → 1 ≤ array_len b
array_some b (inl e) = rw e (omega arith)
array_some b (inr e) = rw e (omega arith)

module _ (b : ℕ) (d : Sectors) (o : Option Layout) (p : Layout) (t : Table) (size : IsSectorSize b) (sound : Sound b p)
    (sectors : p.sectors ≡ length d) (copies : Copies b d o p t) where
  abbrev n : ℕ
  n = length d

  abbrev backup_writes : Writes
  backup_writes = backup_phase b n t copies.backup

  abbrev primary_array : Writes
  primary_array = array_phase b n t Primary

  room : HasRoom b n
  room = copies.fits.room

  mid : (s : ℕ) (v : List ℕ) → Puts copies.labels s v → (array_len b + 2 ≤ s) × (s < n - (array_len b + 1))
  mid = label_middle b d o p t size sound sectors copies

  low : (s : ℕ) (v : List ℕ) → Puts primary_array s v → (2 ≤ s) × (s < array_len b + 2)
  low = primary_low b d o p t size sound sectors copies

  high : (s : ℕ) (v : List ℕ) → Puts backup_writes s v → (n - (array_len b + 1) ≤ s) × (s < n)
  high = backup_high b d o p t size sound sectors copies

  labels_rise : Rises copies.labels
  labels_rise = ascends_rises copies.labels copies.writes.ascending

  backup_rises : Rises backup_writes
  backup_rises =
      rises_append (array_phase b n t Backup) (one_write (n - 1) copies.backup)
      (array_rises b t.entries (n - (array_len b + 1)) (array_len b)) (one_rises (n - 1) copies.backup)
      (λ s t1 v x left right. let at = puts_array b t.entries (n - (array_len b + 1)) (array_len b) s v left in
      let last = one_is (n - 1) t1 copies.backup x right in omega (arith, at.high, last, room))

  lower_rises : Rises (labels_and_backup b n t copies.backup copies.labels)
  lower_rises = rises_append copies.labels backup_writes labels_rise backup_rises
      (λ s t1 v x left right. let at = mid s v left in let up = high t1 x right in omega (arith, at.1, up.0))

  array_then_labels : Rises (primary_and_labels b n t copies.labels)
  array_then_labels = rises_append primary_array copies.labels (array_rises b t.entries 2 (array_len b)) labels_rise
      (λ s t1 v x left right. let at = low s v left in let up = mid t1 x right in omega (arith, at.1, up.0))

  above_array : (t1 : ℕ) (x : List ℕ) → Puts (labels_and_backup b n t copies.backup copies.labels) t1 x → array_len b + 2 ≤ t1
  above_array t1 x puts = ⊎_elim
      (λ label. (mid t1 x label).0)
      (λ back. let up = high t1 x back in omega (arith, up.0, room))
      (puts_split copies.labels backup_writes t1 x puts)

  all_but_first : Rises (primary_array ++ labels_and_backup b n t copies.backup copies.labels)
  all_but_first =
      rises_append primary_array (labels_and_backup b n t copies.backup copies.labels) (array_rises b t.entries 2 (array_len b)) lower_rises
      (λ s t1 v x left right. let at = low s v left in let up = above_array t1 x right in omega (arith, at.1, up))

  copies_rise : Rises (copies_and_labels b n t copies.primary copies.backup copies.labels)
  copies_rise =
      rises_append (one_write 1 copies.primary) (primary_array ++ labels_and_backup b n t copies.backup copies.labels)
      (one_rises 1 copies.primary) all_but_first
      (λ s t1 v x left right. let one = one_is 1 s copies.primary v left in ⊎_elim
      (λ array. let at = low t1 x array in omega (arith, one, at.0))
      (λ rest. let up = above_array t1 x rest in omega (arith, one, up))
      (puts_split primary_array (labels_and_backup b n t copies.backup copies.labels) t1 x right))

  backup_some : 1 ≤ length backup_writes
  backup_some = let few = backup_few b d o p t size sound sectors copies in omega (arith, few)

  pub backup_is_phase : IsPhase backup_writes
  backup_is_phase = record { some = backup_some; ascending = rises_ascends backup_writes backup_rises }

  pub lower_is_phase : IsPhase (labels_and_backup b n t copies.backup copies.labels)
  lower_is_phase = record {
    some = let sum = length-append copies.labels backup_writes in omega (arith, sum, backup_some);
    ascending = rises_ascends (labels_and_backup b n t copies.backup copies.labels) lower_rises;
  }

  pub array_is_phase : IsPhase primary_array
  array_is_phase = record {
    some = let few = array_few b d o p t size sound sectors copies in let some = array_some b size in omega (arith, few, some);
    ascending = rises_ascends primary_array (array_rises b t.entries 2 (array_len b));
  }

  pub middle_is_phase : IsPhase (primary_and_labels b n t copies.labels)
  middle_is_phase = record {
    some = let sum = length-append primary_array copies.labels in let few = array_few b d o p t size sound sectors copies in
        let some = array_some b size in omega (arith, sum, few, some);
    ascending = rises_ascends (primary_and_labels b n t copies.labels) array_then_labels;
  }

  pub copies_are_phase : IsPhase (copies_and_labels b n t copies.primary copies.backup copies.labels)
  copies_are_phase =
      record {
        some = omega arith;
        ascending = rises_ascends (copies_and_labels b n t copies.primary copies.backup copies.labels) copies_rise;
      }

quiet_some : (quiet : Writes) → quiet ≢ [] → 1 ≤ length quiet
quiet_some [] some = absurd (some refl)
quiet_some (w ∷ ws) some = omega arith

within_phases : (quiet : Writes) (loud : ℕ × List ℕ) (phases : List Writes) → IsAscending quiet → within_mbr_phases quiet loud phases
    → All IsPhase phases
within_phases quiet loud phases ascending (inl (none, is)) =
    subst (All IsPhase) (sym is) (All-cons IsPhase (one_write loud.0 loud.1) [] (one_phase loud.0 loud.1) (All-nil IsPhase))
within_phases quiet loud phases ascending (inr (some, is)) = subst (All IsPhase) (sym is)
    (All-cons IsPhase quiet (one_write loud.0 loud.1 ∷ []) (record { some = quiet_some quiet some; ascending = ascending })
    (All-cons IsPhase (one_write loud.0 loud.1) [] (one_phase loud.0 loud.1) (All-nil IsPhase)))

four_and : (v w x y : Writes) (last : List Writes) → IsPhase v → IsPhase w → IsPhase x → IsPhase y → All IsPhase last
    → All IsPhase (v ∷ w ∷ x ∷ y ∷ last)
four_and v w x y last first second third fourth rest =
    All-cons IsPhase v (w ∷ x ∷ y ∷ last) first
    (All-cons IsPhase w (x ∷ y ∷ last) second
    (All-cons IsPhase x (y ∷ last) third
    (All-cons IsPhase y last fourth rest)))

zeroed_ascends : (b : ℕ) (d : Sectors) (p : Layout) (phases : List Writes) → IsSectorSize b → IsPlan b d p phases → All IsPhase phases
zeroed_ascends b d p phases size (idle healthy none) = subst (All IsPhase) (sym none) (All-nil IsPhase)
zeroed_ascends b d p phases size (backup_first o t is) = subst (All IsPhase) (sym is.is)
    (four_and (labels_and_backup b (length d) t is.copies.backup is.copies.labels) (closing b) (array_phase b (length d) t Primary)
    (one_write 1 is.copies.primary) is.last
    (lower_is_phase b d o p t size is.common.sound is.common.sectors is.copies) (one_phase 1 (replicate b 0))
    (array_is_phase b d o p t size is.common.sound is.common.sectors is.copies) (one_phase 1 is.copies.primary)
    (last_phases (length d) (sector d 0) is.last is.protects))
zeroed_ascends b d p phases size (primary_first o t is) = subst (All IsPhase) (sym is.is)
    (four_and (closing b) (primary_and_labels b (length d) t is.copies.labels) (one_write 1 is.copies.primary)
    (backup_phase b (length d) t is.copies.backup) is.last
    (one_phase 1 (replicate b 0)) (middle_is_phase b d o p t size is.common.sound is.common.sectors is.copies)
    (one_phase 1 is.copies.primary) (backup_is_phase b d o p t size is.common.sound is.common.sectors is.copies)
    (last_phases (length d) (sector d 0) is.last is.protects))
zeroed_ascends b d p phases size (from_mbr o t is) = subst (All IsPhase) (sym is.is)
    (All-cons IsPhase (copies_and_labels b (length d) t is.copies.primary is.copies.backup is.copies.labels) (one_write 0 is.head ∷ [])
    (copies_are_phase b d o p t size is.common.sound is.common.sectors is.copies)
    (All-cons IsPhase (one_write 0 is.head) [] (one_phase 0 is.head) (All-nil IsPhase)))
zeroed_ascends b d p phases size (one_label o t is) = subst (All IsPhase) (sym is.is)
    (All-cons IsPhase (one_write is.loud.0 is.loud.1) [] (one_phase is.loud.0 is.loud.1) (All-nil IsPhase))
zeroed_ascends b d p phases size (within_mbr o records chain is) = within_phases is.quiet is.loud phases is.ascending is.is

kept_ascends : (b : ℕ) (d : Sectors) (p : Layout) (full phases : List Writes) → IsSectorSize b → (plan : IsPlan b d p full)
    → KeptOf plan phases → All IsPhase phases
kept_ascends b d p full phases size (backup_first o t is) kept =
    subst (All IsPhase) (sym kept.are)
    (All-append IsPhase kept.front (kept.middle ++ is.last)
    (all_needed IsPhase d (labels_and_backup b (length d) t is.copies.backup is.copies.labels) kept.front
    (lower_is_phase b d o p t size is.common.sound is.common.sectors is.copies) kept.is_front)
    (All-append IsPhase kept.middle is.last
    (all_primary IsPhase d (one_write 1 kept.bridge) (array_phase b (length d) t Primary) (one_write 1 is.copies.primary) kept.middle
    (one_phase 1 kept.bridge) (array_is_phase b d o p t size is.common.sound is.common.sectors is.copies)
    (one_phase 1 is.copies.primary) kept.is_middle)
    (last_phases (length d) (sector d 0) is.last is.protects)))
kept_ascends b d p full phases size (primary_first o t is) kept =
    subst (All IsPhase) (sym kept.are)
    (All-append IsPhase kept.middle (kept.back ++ is.last)
    (all_primary IsPhase d (one_write 1 kept.opening) (primary_and_labels b (length d) t is.copies.labels) (one_write 1 is.copies.primary)
    kept.middle (one_phase 1 kept.opening) (middle_is_phase b d o p t size is.common.sound is.common.sectors is.copies)
    (one_phase 1 is.copies.primary) kept.is_middle)
    (All-append IsPhase kept.back is.last
    (all_needed IsPhase d (backup_phase b (length d) t is.copies.backup) kept.back
    (backup_is_phase b d o p t size is.common.sound is.common.sectors is.copies) kept.is_back)
    (last_phases (length d) (sector d 0) is.last is.protects)))
kept_ascends b d p full phases size (idle healthy none) same =
    subst (All IsPhase) (sym same) (zeroed_ascends b d p full size (idle healthy none))
kept_ascends b d p full phases size (from_mbr o t is) same =
    subst (All IsPhase) (sym same) (zeroed_ascends b d p full size (from_mbr o t is))
kept_ascends b d p full phases size (one_label o t is) same =
    subst (All IsPhase) (sym same) (zeroed_ascends b d p full size (one_label o t is))
kept_ascends b d p full phases size (within_mbr o records chain is) same =
    subst (All IsPhase) (sym same) (zeroed_ascends b d p full size (within_mbr o records chain is))

-- of a plan of an MBR where none was: the phases of a plan on the emptied disk, or one write, and then single ones
new_mbr_ascends : (b : ℕ) (d : Sectors) (p : Layout) (phases : List Writes) → IsSectorSize b → IsNewMbr b d p phases → All IsPhase phases
new_mbr_ascends b d p phases size is =
    subst (All IsPhase) (sym is.is)
    (All-append IsPhase is.turning (is.first ++ is.last) (turning_ascends is.turns)
    (All-append IsPhase is.first is.last (zeroes_ascend 1 is.first is.is_first) (zeroes_ascend (length d - 1) is.last is.is_last)))
  where
    alone : (k : ℕ) (v : List ℕ) → All IsPhase (one_write k v ∷ [])
    alone k v = All-cons IsPhase (one_write k v) [] (one_phase k v) (All-nil IsPhase)

    turning_ascends : IsTurning b d p is.turning → All IsPhase is.turning
    turning_ascends (filled plan some) = zeroed_ascends b (emptied d) p is.turning size plan
    turning_ascends (empty plan same) = subst (All IsPhase) (sym same) (alone 0 (empty_head (sector d 0)))

    zeroes_ascend : (s : ℕ) (zs : List Writes) → Zeroes b d is.old p s zs → All IsPhase zs
    zeroes_ascend s zs (inl (stale, same)) = subst (All IsPhase) (sym same) (alone s (replicate b 0))
    zeroes_ascend s zs (inr (none, same)) = subst (All IsPhase) (sym same) (All-nil IsPhase)

-- each phase of a plan has writes, and they ascend
pub plan_ascends_lem : (b : ℕ) (d : Sectors) (p : Layout) (phases : List Writes) (primary : Choice) → IsSectorSize b
    → IsPlanBy primary b d p phases → All IsPhase phases
plan_ascends_lem b d p phases Zeroed size is = zeroed_ascends b d p phases size is
plan_ascends_lem b d p phases Kept size (inl is) = kept_ascends b d p is.full phases size is.plan is.kept
plan_ascends_lem b d p phases Kept size (inr is) = new_mbr_ascends b d p phases size is

-- ## What the steps of a commit answer.

-- what the disk denotes, from which the batch may start
pub record StartsFrom (b : ℕ) (batch : Words) (d : Sectors) (o : Option Layout) : Type 0 where
  pub from : Denotes b d o
  pub may : o ≡ None → Makes batch
