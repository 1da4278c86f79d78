-- Where a plan writes both copies, nothing keeps it from having one switch, and nothing that it would write is owned.
use Rattle.std.proofs.Common.{◌≡◌, ◌∙◌, inl, inr, ⊎_elim, ℕ, ◌+◌, ◌-◌, ◌<◌, ◌≤◌, List, ◌++◌, length, replicate, Option, refl, sym, subst}
use Rattle.std.proofs.Common.{arith}
use Rattle.std.proofs.lemmas.Bool.{cases_lt}
use Rattle.pt_sector.specs.Sectors.{Sectors, sector, Writes, Puts}
use Rattle.pt_gpt.specs.Copies.{array_len}
use Rattle.pt_gpt.specs.declared.table.Side.TheVariants.{Primary, Backup}
use Rattle.pt_gpt.specs.declared.table.Table.{Table}
use Rattle.pt_recover.specs.Denotes.{Reads}
use Rattle.pt_members.specs.Members.{places_of}
use Rattle.pt_members.specs.declared.layout.Body.{Body}
use Rattle.pt_members.specs.declared.layout.Body.TheVariants.{Mbr, Gpt}
use Rattle.pt_members.specs.declared.layout.Layout.{Layout}
use Rattle.pt_layout.specs.Healthy.{IsGuarded}
use Rattle.pt_members.specs.Tables.{HasFour, OwnedOf}
use Rattle.pt_layout.specs.Sound.{Sound}
use Rattle.pt_apply.specs.Plans.{writes_in}
use Rattle.pt_cases.specs.Cases.{Common, Copies, ChangesLabels, IsBackupFirst, IsPrimaryFirst, IsFromMbr, primary_and_labels}
use Rattle.pt_cases.specs.Cases.{copies_and_labels}
use Rattle.pt_cases.proofs.Causes.{set_none_changed}
use Rattle.pt_cases.specs.Writes.{array_phase, one_write, closing, backup_phase, Had, IsEncoded, IsLabelSet, stood, set, there, Set}
use Rattle.pt_apply.proofs.Puts.{puts_left, puts_right}
use Rattle.pt_cases.proofs.MetLemmas.{labels_set_met}
use Rattle.pt_cases.proofs.Ascending.{places_ascend_lem}
use Rattle.pt_cases.proofs.Along.{along_label}
use Rattle.pt_cases.proofs.AskedLemmas.{Asked, backup_first_puts, primary_first_puts, from_mbr_puts}
use Rattle.pt_cases.proofs.Sides.{array_any}
use Rattle.pt_cases.specs.Unplanned.{WouldWrite, LabelComes, IsOtherLabel, WouldPrecede, TargetsIn, TargetsOf, IsReused, HasNoTurn}
use Rattle.pt_cases.specs.Unplanned.{HasNoCopies, SharesSector, HasNoSwitch, unreadable, unmade, turn, copies}
use Rattle.pt_cases.specs.Unplanned as cause
use Rattle.pt_cases.specs.declared.targets.target.Target.{Target}
use Rattle.pt_cases.proofs.Each.{one_each}
use Rattle.pt_cases.proofs.Planned.{labels_readable}

-- each sector of the backup copy is written
backup_any : (b n : ℕ) (t : Table) (header : List ℕ) (s : ℕ) → array_len b + 2 ≤ n → n ≤ s + (array_len b + 1) → s < n
    → (v : List ℕ) × Puts (backup_phase b n t header) s v
backup_any b n t header s room ge lt = ⊎_elim
    (λ below.
    let it = array_any b t.entries (n - (array_len b + 1)) (array_len b) s (omega (arith, ge)) (omega (arith, below, ge, room)) in
    (it.0, puts_left (array_phase b n t Backup) (one_write (n - 1) header) s it.0 it.1))
    (λ last. (header, puts_right (array_phase b n t Backup) (one_write (n - 1) header) s header (inl (omega (arith, last, lt), refl))))
    (cases_lt s (n - 1))

-- and of the primary one, if its header is written before its array
primary_any : (b n : ℕ) (t : Table) (header : List ℕ) (more : Writes) (s : ℕ) → 0 < s → s < array_len b + 2
    → (v : List ℕ) × Puts (one_write 1 header ++ (array_phase b n t Primary ++ more)) s v
primary_any b n t header more s some lt = ⊎_elim
    (λ first. (header, inl (omega (arith, some, first), refl)))
    (λ later.
    let it = array_any b t.entries 2 (array_len b) s later (omega (arith, lt)) in (
      it.0,
      puts_right (one_write 1 header) (array_phase b n t Primary ++ more) s it.0
          (puts_left (array_phase b n t Primary) more s it.0 it.1),
    ))
    (cases_lt s 2)

-- a plan that writes both copies
module _ (b : ℕ) (d : Sectors) (o : Option Layout) (p : Layout) (t : Table) (sound : Sound b p) (made : Copies b d o p t)
    (not_labels : ¬ ChangesLabels o p) where
  four : HasFour p.body
  four = subst HasFour (sym made.body) tt

  no_targets : (ts : List (Target b)) → ¬ TargetsOf b d o p ts
  no_targets ts is = not_labels (subst (λ (y : Body). TargetsIn b d o p y ts) made.body is).0

  no_shares : ¬ SharesSector b d o p
  no_shares (ts, inl is, two) = no_targets ts is
  no_shares (ts, inr is, two) = one_each b d o p four sound ts is.1 two

  no_turn : ¬ HasNoTurn b d o p
  no_turn (inl (ts, is, free, none)) = no_targets ts is
  no_turn (inr shares) = no_shares shares

  no_other : (s : ℕ) → ¬ IsOtherLabel b d o p s
  no_other s is =
      is.differ (set_none_changed b d o p made.labels is.slice is.label is.old four made.writes is.labelled.stands is.labelled.wanted
      (subst (λ (k : ℕ). Had b d o k is.old) (sym is.labelled.place) is.had))

  -- new labels are written
  new_put : (s : ℕ) → LabelComes b d o p s → (v : List ℕ) × Puts made.labels s v
  new_put s is =
      by_set (along_label (Set b d o made.labels) 1 (places_of b p.sectors p.body) p.labels is.slice is.label
      (places_ascend_lem b p.sectors p.body four) made.writes.set is.labelled.stands is.labelled.wanted)
    where
      by_set : IsLabelSet b d o made.labels is.slice is.label → (v : List ℕ) × Puts made.labels s v
      by_set (stood had reads never) = absurd (is.none is.label (subst (λ (k : ℕ). Had b d o k is.label) is.labelled.place had))
      by_set (set v none encoded unread puts) = (v, subst (λ (k : ℕ). Puts made.labels k v) is.labelled.place puts)
      by_set (there none encoded reads never) = absurd (is.unread (
        subst (Reads b d) is.labelled.place reads,
        subst (λ (k : ℕ). IsEncoded is.label is.slice (replicate b 0) (sector d k)) is.labelled.place encoded,
      ))

  -- what would be written is asked for
  asks : (s : ℕ) → WouldWrite b d o p s → Asked b d made.labels s
  asks s (cause.copy some table) = inl (some, table)
  asks s (cause.head first why) = inr (inl (first, why))
  asks s (cause.new is) = inr (inr (new_put s is))
  asks s (cause.other is) = absurd (no_other s is)

  no_reused : ((s : ℕ) → Asked b d made.labels s → ¬ OwnedOf b o s) → ¬ IsReused b d o p
  no_reused free (s, cause.both is it, owned) = free s (asks s it) owned
  no_reused free (s, cause.target ts x is change at, owned) = no_targets ts is

  no_copies : ((s : ℕ) → WouldPrecede b d o p s → ¬ IsGuarded b d s) → ¬ HasNoCopies b d o p
  no_copies quiet (inl is) = ⊎_elim (λ other. no_other is.place other) (λ before. quiet is.place before.0 before.1) is.amiss
  no_copies quiet (inr shares) = no_shares shares

  no_switch : ((s : ℕ) → WouldPrecede b d o p s → ¬ IsGuarded b d s) → ¬ HasNoSwitch b d o p
  no_switch quiet (unreadable is) =
      labels_readable b d o p (record { writes = made.labels; four = four; met = labels_set_met b d o p made.labels made.writes }) is
  no_switch quiet (unmade records chain is was none) = (let two : Gpt t ≡ Mbr records chain = sym made.body ∙ is in cc)
  no_switch quiet (turn is) = no_turn is
  no_switch quiet (copies is) = no_copies quiet is

module _ (b : ℕ) (d : Sectors) (o : Option Layout) (p : Layout) (t : Table) (phases : List Writes) where
  backup_quiet : IsBackupFirst b d o p t phases → (s : ℕ) → WouldPrecede b d o p s → ¬ IsGuarded b d s
  backup_quiet is s (cause.backup plain has ge lt) =
      let room = is.copies.fits.room in
      let it = backup_any b (length d) t is.copies.backup s (omega (arith, room)) ge lt in
      is.unguarded s it.0 (puts_right is.copies.labels (backup_phase b (length d) t is.copies.backup) s it.0 it.1)
  backup_quiet is s (cause.primary plain none some lt) = absurd (none is.has_primary)
  backup_quiet is s (cause.both mbr some table) = absurd (is.plain mbr)
  backup_quiet is s (cause.new label) =
      let it = new_put b d o p t is.common.sound is.copies is.other s label in
      is.unguarded s it.0 (puts_left is.copies.labels (backup_phase b (length d) t is.copies.backup) s it.0 it.1)

  primary_quiet : IsPrimaryFirst b d o p t phases → (s : ℕ) → WouldPrecede b d o p s → ¬ IsGuarded b d s
  primary_quiet is s (cause.backup plain has ge lt) = absurd (is.no_primary has)
  primary_quiet is s (cause.primary plain none some lt) =
      let it = primary_any b (length d) t (replicate b 0) is.copies.labels s some lt in
      is.unguarded s it.0 it.1
  primary_quiet is s (cause.both mbr some table) = absurd (is.plain mbr)
  primary_quiet is s (cause.new label) =
      let it = new_put b d o p t is.common.sound is.copies is.other s label in
      is.unguarded s it.0 (puts_right (closing b) (primary_and_labels b (length d) t is.copies.labels) s it.0
      (puts_right (array_phase b (length d) t Primary) is.copies.labels s it.0 it.1))

  in_mbr : (is : IsFromMbr b d o p t phases) (s : ℕ) (v : List ℕ)
      → Puts (is.copies.labels ++ backup_phase b (length d) t is.copies.backup) s v
      → Puts (copies_and_labels b (length d) t is.copies.primary is.copies.backup is.copies.labels) s v
  in_mbr is s v puts =
      let rest : Writes = is.copies.labels ++ backup_phase b (length d) t is.copies.backup in
      puts_right (one_write 1 is.copies.primary) (array_phase b (length d) t Primary ++ rest) s v
      (puts_right (array_phase b (length d) t Primary) rest s v puts)

  mbr_quiet : IsFromMbr b d o p t phases → ¬ ChangesLabels o p → (s : ℕ) → WouldPrecede b d o p s → ¬ IsGuarded b d s
  mbr_quiet is not_labels s (cause.backup plain has ge lt) = absurd (plain is.mbr)
  mbr_quiet is not_labels s (cause.primary plain none some lt) = absurd (plain is.mbr)
  mbr_quiet is not_labels s (cause.both mbr some (inl low)) =
      let it = primary_any b (length d) t is.copies.primary (is.copies.labels ++ backup_phase b (length d) t is.copies.backup) s some low in
      is.unguarded s it.0 it.1
  mbr_quiet is not_labels s (cause.both mbr some (inr high)) =
      let room = is.copies.fits.room in
      let it = backup_any b (length d) t is.copies.backup s (omega (arith, room)) high.0 high.1 in
      is.unguarded s it.0 (in_mbr is s it.0 (puts_right is.copies.labels (backup_phase b (length d) t is.copies.backup) s it.0 it.1))
  mbr_quiet is not_labels s (cause.new label) =
      let it = new_put b d o p t is.common.sound is.copies not_labels s label in
      is.unguarded s it.0 (in_mbr is s it.0 (puts_left is.copies.labels (backup_phase b (length d) t is.copies.backup) s it.0 it.1))

  -- so nothing keeps such a plan from having one switch
  pub backup_first_switch : IsBackupFirst b d o p t phases → ¬ HasNoSwitch b d o p
  backup_first_switch is = no_switch b d o p t is.common.sound is.copies is.other (backup_quiet is)

  pub primary_first_switch : IsPrimaryFirst b d o p t phases → ¬ HasNoSwitch b d o p
  primary_first_switch is = no_switch b d o p t is.common.sound is.copies is.other (primary_quiet is)

  pub from_mbr_switch : IsFromMbr b d o p t phases → ¬ ChangesLabels o p → ¬ HasNoSwitch b d o p
  from_mbr_switch is not_labels = no_switch b d o p t is.common.sound is.copies not_labels (mbr_quiet is not_labels)

  -- and nothing that it would write is owned
  free_of : (planned : List Writes) (s : ℕ) → Common b d o p phases → phases ≡ planned → (v : List ℕ) × Puts (writes_in planned) s v
      → ¬ OwnedOf b o s
  free_of planned s common is it = common.free s it.0 (subst (λ (ps : List Writes). Puts (writes_in ps) s it.0) (sym is) it.1)

  pub backup_first_frees : IsBackupFirst b d o p t phases → ¬ IsReused b d o p
  backup_first_frees is = no_reused b d o p t is.common.sound is.copies is.other (λ s asked. free_of _ s is.common is.is
      (backup_first_puts b d t is.copies.fits is.copies.primary is.copies.backup is.copies.labels is.last is.plain is.protects s asked))

  pub primary_first_frees : IsPrimaryFirst b d o p t phases → ¬ IsReused b d o p
  primary_first_frees is = no_reused b d o p t is.common.sound is.copies is.other (λ s asked. free_of _ s is.common is.is
      (primary_first_puts b d t is.copies.fits is.copies.primary is.copies.backup is.copies.labels is.last is.plain is.protects s asked))

  pub from_mbr_frees : IsFromMbr b d o p t phases → ¬ ChangesLabels o p → ¬ IsReused b d o p
  from_mbr_frees is not_labels = no_reused b d o p t is.common.sound is.copies not_labels (λ s asked. free_of _ s is.common is.is
      (from_mbr_puts b d t is.copies.fits is.copies.primary is.copies.backup is.copies.labels is.head s asked))
