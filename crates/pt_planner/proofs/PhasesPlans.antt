-- From phases of both copies to the plan, or to why there is none.
use Rattle.std.proofs.Common.{◌≡◌, ◌⊎◌, inl, inr, ⊎_elim, ℕ, List, [], ◌++◌, length, refl, sym, subst, arith, Option, Some, None}
use Rattle.pt_sector.specs.Sectors.{Sectors, sector, IsSectorSize, Writes, Puts}
use Rattle.pt_gpt.specs.Copies.{array_len}
use Rattle.pt_gpt.specs.declared.table.Side.TheVariants.{Primary}
use Rattle.pt_gpt.specs.declared.table.Table.{Table}
use Rattle.pt_members.specs.declared.layout.Layout.{Layout}
use Rattle.pt_recover.specs.declared.trace.TracedRun.{TracedRun}
use Rattle.pt_recover.specs.Denotes.{IsMbrDisk}
use Rattle.pt_layout.specs.Healthy.{IsGuarded}
use Rattle.pt_members.specs.Tables.{OwnedOf}
use Rattle.pt_apply.specs.Plans.{writes_in}
use Rattle.pt_cases.specs.Cases.{IsPlan, backup_first, primary_first, from_mbr, Common, Copies, labels_and_backup, backup_first_phases}
use Rattle.pt_cases.specs.Cases.{primary_and_labels, primary_first_phases, copies_and_labels, from_mbr_phases}
use Rattle.pt_cases.specs.Writes.{array_phase, closing, backup_phase, IsProtectedFrom, Protects}
use Rattle.pt_apply.proofs.Puts.{puts_split, puts_left, puts_right}
use Rattle.pt_cases.proofs.Frames.{one_is}
use Rattle.pt_cases.proofs.Sides.{puts_array, puts_backup}
use Rattle.pt_planner.specs.Phases.{WroteCopies, Reaches, CopiesStart, OrderIs, HeadAsRead, HeadIn}
use Rattle.pt_planner.proofs.Reached.{copies_and_labels_reached, backup_first_reached, primary_first_reached, from_mbr_reached}
use Rattle.pt_planner.proofs.Reached.{protects_reached}
use Rattle.pt_cases.specs.Unplanned.{WouldWrite, copy, head, WouldPrecede, backup, primary, NoneTaken, HasNoCopies, StopsBy}
use Rattle.pt_cases.specs.Unplanned as cause
use Rattle.pt_cases.specs.Targets.{AreNewWrites, InSectorOrder, HasTwoOfOne}
use Rattle.pt_cases.specs.declared.targets.error.PlanError.{PlanError}
use Rattle.pt_cases.specs.declared.targets.error.PlanError.TheVariants.{NotOneSwitch, ReusedInOneBatch, NeedsRepair, Unsound, Device}
use Rattle.pt_cases.specs.declared.targets.error.PlanError.TheVariants.{Memory}
use Rattle.pt_cases.specs.declared.targets.target.Target.{Target}
use Rattle.pt_planner.specs.inner.Phases.{Closes, Arranged, writes_before, Touches, Alters, RefusedBy, Passes}
use Rattle.pt_planner.specs.declared.phases.copies.Order.{Order}
use Rattle.pt_planner.specs.declared.phases.copies.Order.TheVariants.{BackupFirst, PrimaryFirst, FromMbr}
use Rattle.pt_cases.proofs.AskedLemmas.{Asked, backup_first_puts, primary_first_puts, from_mbr_puts}
use Rattle.pt_planner.proofs.Every.{new_put, other_alters}
use Rattle.pt_planner.proofs.Labels.{labels_are, new_label, other_label, writes_both}

-- a last phase over sector 0 as it was given is one over sector 0
closes_protects : (d : Sectors) (given : Option (List ℕ)) (last : List Writes) → HeadAsRead d given → Closes (length d) given last
    → Protects (length d) (sector d 0) last
closes_protects d (Some old) last is closes = subst (λ (x : List ℕ). Protects (length d) x last) is closes
closes_protects d None last is closes = inl (is, closes)

nothing_more : (ws : Writes) (s : ℕ) (v : List ℕ) → Puts (ws ++ []) s v → Puts ws s v
nothing_more ws s v puts = ⊎_elim (λ here. here) (λ none. absurd none) (puts_split ws [] s v puts)

module _ {b : ℕ} (d : Sectors) (o : Option Layout) (p : Layout) (t : Table) (chosen : Order b) (guarded : List TracedRun)
    (ts sorted : List (Target b))
    (size : IsSectorSize b) (start : CopiesStart d o p t chosen guarded ts) (order : InSectorOrder ts sorted) (labels : Writes)
    (news : AreNewWrites guarded sorted labels) where
  abbrev n : ℕ
  n = length d

  reaches_writes : (s : ℕ) (v : List ℕ) → Reaches b n labels s v → WouldWrite b d o p s
  reaches_writes s v (inl of_copy) = copy of_copy.0 of_copy.1
  reaches_writes s v (inr label) = cause.new (new_label d o p t chosen guarded ts size start sorted order labels news s v label)

  last_writes : (last : List Writes) (s : ℕ) (v : List ℕ) → Protects n (sector d 0) last → Puts (writes_in last) s v → WouldWrite b d o p s
  last_writes last s v protects puts = (let it = protects_reached n (sector d 0) last s v protects puts in head it.0 (inl it.1))

  -- each write of the phases is one of both copies
  would_write : (phases : List Writes) → (is : Order b) → chosen ≡ is → Arranged b n t labels is phases → (s : ℕ) (v : List ℕ)
      → Puts (writes_in phases) s v → WouldWrite b d o p s
  would_write phases (BackupFirst given) is (last, closes, wrote) s v puts = ⊎_elim
      (λ end. last_writes last s v (closes_protects d given last (subst (λ (x : Order b). HeadIn d x) is start.head) closes) end)
      (λ reached. reaches_writes s v reached)
      (backup_first_reached b n t wrote.primary wrote.backup labels last s v start.fits.room
      (subst (λ (x : List Writes). Puts (writes_in x) s v) wrote.is puts))
  would_write phases (PrimaryFirst given) is (last, closes, wrote) s v puts = ⊎_elim
      (λ end. last_writes last s v (closes_protects d given last (subst (λ (x : Order b). HeadIn d x) is start.head) closes) end)
      (λ reached. reaches_writes s v reached)
      (primary_first_reached b n t wrote.primary wrote.backup labels last s v start.fits.room
      (subst (λ (x : List Writes). Puts (writes_in x) s v) wrote.is puts))
  would_write phases (FromMbr old) is (new, protected, wrote) s v puts = ⊎_elim
      (λ end. head end.0 (inr (subst (λ (x : Order b). OrderIs b d x) is start.order)))
      (λ reached. reaches_writes s v reached)
      (from_mbr_reached b n t wrote.primary wrote.backup labels new s v start.fits.room
      (subst (λ (x : List Writes). Puts (writes_in x) s v) wrote.is puts))

  label_precedes : (s : ℕ) (v : List ℕ) → Puts labels s v → WouldPrecede b d o p s
  label_precedes s v puts = cause.new (new_label d o p t chosen guarded ts size start sorted order labels news s v puts)

  front_precedes : (given : Option (List ℕ)) (backup_header : List ℕ) → OrderIs b d (BackupFirst given) → (s : ℕ) (v : List ℕ)
      → Puts (labels_and_backup b n t backup_header labels) s v → WouldPrecede b d o p s
  front_precedes given backup_header is s v puts = ⊎_elim
      (λ label. label_precedes s v label)
      (λ there. (let it = puts_backup b n t backup_header s v start.fits.room there in let low = it.0 in
      backup is.0 is.1 (omega (arith, low)) it.1))
      (puts_split labels (backup_phase b n t backup_header) s v puts)

  primary_precedes : (given : Option (List ℕ)) → OrderIs b d (PrimaryFirst given) → (s : ℕ) (v : List ℕ)
      → Puts (closing b ++ primary_and_labels b n t labels) s v
      → WouldPrecede b d o p s
  primary_precedes given is s v puts = ⊎_elim
      (λ header. (let it = one_is 1 s _ v header in primary is.0 is.1 (omega (arith, it)) (omega (arith, it))))
      (λ rest. ⊎_elim
      (λ array. (let it = puts_array b t.entries 2 (array_len b) s v array in
      primary is.0 is.1 (omega (arith, it.low)) (omega (arith, it.high))))
      (λ label. label_precedes s v label)
      (puts_split (array_phase b n t Primary) labels s v rest))
      (puts_split (closing b) (primary_and_labels b n t labels) s v puts)

  both_precede : IsMbrDisk d → (primary_header backup_header : List ℕ) (s : ℕ) (v : List ℕ)
      → Puts (copies_and_labels b n t primary_header backup_header labels) s v → WouldPrecede b d o p s
  both_precede is primary_header backup_header s v puts = ⊎_elim
      (λ of_copy. cause.both is of_copy.0 of_copy.1)
      (λ label. label_precedes s v label)
      (copies_and_labels_reached b n t primary_header backup_header labels s v start.fits.room puts)

  -- and those before the switch are what it says
  would_precede : (phases : List Writes) → (is : Order b) → chosen ≡ is → Arranged b n t labels is phases → (s : ℕ) (v : List ℕ)
      → Puts (writes_before is phases) s v → WouldPrecede b d o p s
  would_precede phases (BackupFirst given) is (last, closes, wrote) s v puts =
      front_precedes given wrote.backup (subst (λ (x : Order b). OrderIs b d x) is start.order) s v
      (nothing_more (labels_and_backup b n t wrote.backup labels) s v
      (subst (λ (x : List Writes). Puts (writes_before {b = b} (BackupFirst given) x) s v) wrote.is puts))
  would_precede phases (PrimaryFirst given) is (last, closes, wrote) s v puts =
      primary_precedes given (subst (λ (x : Order b). OrderIs b d x) is start.order) s v
      (two_before s v (subst (λ (x : List Writes). Puts (writes_before {b = b} (PrimaryFirst given) x) s v) wrote.is puts))
    where
      two_before : (k : ℕ) (x : List ℕ) → Puts (closing b ++ (primary_and_labels b n t labels ++ [])) k x
          → Puts (closing b ++ primary_and_labels b n t labels) k x
      two_before k x these = ⊎_elim
          (λ first. puts_left (closing b) (primary_and_labels b n t labels) k x first)
          (λ rest. puts_right (closing b) (primary_and_labels b n t labels) k x (nothing_more (primary_and_labels b n t labels) k x rest))
          (puts_split (closing b) (primary_and_labels b n t labels ++ []) k x these)
  would_precede phases (FromMbr old) is (new, protected, wrote) s v puts =
      both_precede (subst (λ (x : Order b). OrderIs b d x) is start.order) wrote.primary wrote.backup s v
      (nothing_more (copies_and_labels b n t wrote.primary wrote.backup labels) s v
      (subst (λ (x : List Writes). Puts (writes_before {b = b} (FromMbr old) x) s v) wrote.is puts))

  -- what would be written is asked of the phases, or is a label that changes
  asked_or_altered : (s : ℕ) → WouldWrite b d o p s → Asked b d labels s ⊎ Alters (λ k. k ≡ s) sorted
  asked_or_altered s (copy some table) = inl (inl (some, table))
  asked_or_altered s (head zero_is why) = inl (inr (inl (zero_is, why)))
  asked_or_altered s (cause.new is) = inl (inr (inr (new_put d o p t chosen guarded ts sorted size start order labels news s is)))
  asked_or_altered s (cause.other is) = inr (other_alters d o p t chosen guarded ts sorted size start order s is)

  -- the phases write what is asked of them
  put_all : (phases : List Writes) → (is : Order b) → chosen ≡ is → Arranged b n t labels is phases → (s : ℕ) → Asked b d labels s
      → (v : List ℕ) × Puts (writes_in phases) s v
  put_all phases (BackupFirst given) is (last, closes, wrote) s asked =
      let plain = (subst (λ (x : Order b). OrderIs b d x) is start.order).0 in
      let it =
      backup_first_puts b d t start.fits wrote.primary wrote.backup labels last plain
      (closes_protects d given last (subst (λ (x : Order b). HeadIn d x) is start.head) closes) s asked in
      (it.0, subst (λ (x : List Writes). Puts (writes_in x) s it.0) (sym wrote.is) it.1)
  put_all phases (PrimaryFirst given) is (last, closes, wrote) s asked =
      let plain = (subst (λ (x : Order b). OrderIs b d x) is start.order).0 in
      let it =
      primary_first_puts b d t start.fits wrote.primary wrote.backup labels last plain
      (closes_protects d given last (subst (λ (x : Order b). HeadIn d x) is start.head) closes) s asked in
      (it.0, subst (λ (x : List Writes). Puts (writes_in x) s it.0) (sym wrote.is) it.1)
  put_all phases (FromMbr old) is (new, protected, wrote) s asked =
      let it = from_mbr_puts b d t start.fits wrote.primary wrote.backup labels new s asked in
      (it.0, subst (λ (x : List Writes). Puts (writes_in x) s it.0) (sym wrote.is) it.1)

  -- so where they touch nothing that is owned, and no such label changes, nothing that would be written is owned
  none_taken : (phases : List Writes) → Arranged b n t labels chosen phases → ¬ Touches (OwnedOf b o) (writes_in phases)
      → ¬ Alters (OwnedOf b o) sorted → NoneTaken b d o p
  none_taken phases are untouched unaltered s would owned = ⊎_elim
      (λ asked. let it = put_all phases chosen refl are s asked in untouched (s, it.0, it.1, owned))
      (λ altered. unaltered (altered.0, altered.1, altered.2, subst (OwnedOf b o) (sym altered.3) owned))
      (asked_or_altered s would)

  -- what there is against the phases is why there is no plan
  pub refused_stops : (phases : List Writes) → Arranged b n t labels chosen phases → (e : PlanError)
      → RefusedBy o guarded chosen sorted phases e → StopsBy b d o p (HasNoCopies b d o p) e
  refused_stops phases are ReusedInOneBatch (inl (s, v, puts, owned)) =
      (s, cause.both (writes_both d o p t chosen guarded ts size start) (would_write phases chosen refl are s v puts), owned)
  refused_stops phases are ReusedInOneBatch (inr (x, has, kind, owned)) = (
    x.at.0,
    cause.both (writes_both d o p t chosen guarded ts size start)
        (cause.other (other_label d o p t chosen guarded ts size start sorted order x has kind)),
    owned,
  )
  refused_stops phases are NotOneSwitch (untouched, unaltered, inl (x, has, kind, any)) = inl (record {
    both = writes_both d o p t chosen guarded ts size start;
    free = none_taken phases are untouched unaltered;
    place = x.at.0;
    amiss = inl (other_label d o p t chosen guarded ts size start sorted order x has kind);
  })
  refused_stops phases are NotOneSwitch (untouched, unaltered, inr (s, v, puts, is)) = inl (record {
    both = writes_both d o p t chosen guarded ts size start;
    free = none_taken phases are untouched unaltered;
    place = s;
    amiss = inr (would_precede phases chosen refl are s v puts, (start.guards s).0 is);
  })
  refused_stops phases are NeedsRepair never = absurd never
  refused_stops phases are Memory never = absurd never
  refused_stops phases are (Device fault) never = absurd never
  refused_stops phases are (Unsound finding) never = absurd never

  module _ (phases : List Writes) (passes : Passes o guarded chosen sorted phases) where
    common : Common b d o p phases
    common = record {
      from = start.start.from;
      sound = start.start.sound;
      sectors = start.start.sectors;
      stays = start.start.stays;
      not_done = start.start.not_done;
      free = λ s v puts owned. passes.free (s, v, puts, owned);
    }

    abbrev made : (by : List ℕ → List ℕ → List Writes) → WroteCopies b n t by phases → Copies b d o p t
    made by wrote = record {
      body = start.body;
      fits = start.fits;
      fit = wrote.fit;
      primary = wrote.primary;
      backup = wrote.backup;
      is_primary = wrote.is_primary;
      is_backup = wrote.is_backup;
      labels = labels;
      writes = labels_are d o p t chosen guarded ts size start sorted order labels news passes.settled;
    }

    clear : (is : Order b) → chosen ≡ is → (s : ℕ) (v : List ℕ) → Puts (writes_before is phases) s v → ¬ IsGuarded b d s
    clear is same s v puts guards =
        passes.unguarded (s, v, subst (λ (x : Order b). Puts (writes_before x phases) s v) (sym same) puts, (start.guards s).1 guards)

    plan_by : (is : Order b) → chosen ≡ is → Arranged b n t labels is phases → IsPlan b d p phases
    plan_by (BackupFirst given) is (last, closes, wrote) =
        let asked : OrderIs b d (BackupFirst given) = subst (λ (x : Order b). OrderIs b d x) is start.order in
        backup_first o t (record {
          common = common;
          copies = made (λ x y. backup_first_phases b n t x y labels last) wrote;
          other = start.other;
          plain = asked.0;
          has_primary = asked.1;
          last = last;
          protects = closes_protects d given last (subst (λ (x : Order b). HeadIn d x) is start.head) closes;
          is = wrote.is;
          unguarded = λ s v puts. clear (BackupFirst given) is s v
              (subst (λ (x : List Writes). Puts (writes_before {b = b} (BackupFirst given) x) s v) (sym wrote.is)
              (puts_left (labels_and_backup b n t wrote.backup labels) [] s v puts));
        })
    plan_by (PrimaryFirst given) is (last, closes, wrote) =
        let asked : OrderIs b d (PrimaryFirst given) = subst (λ (x : Order b). OrderIs b d x) is start.order in
        primary_first o t (record {
          common = common;
          copies = made (λ x y. primary_first_phases b n t x y labels last) wrote;
          other = start.other;
          plain = asked.0;
          no_primary = asked.1;
          last = last;
          protects = closes_protects d given last (subst (λ (x : Order b). HeadIn d x) is start.head) closes;
          is = wrote.is;
          unguarded = λ s v puts. clear (PrimaryFirst given) is s v
              (subst (λ (x : List Writes). Puts (writes_before {b = b} (PrimaryFirst given) x) s v) (sym wrote.is) (two_more s v puts));
        })
      where
        two_more : (k : ℕ) (x : List ℕ) → Puts (closing b ++ primary_and_labels b n t labels) k x
            → Puts (closing b ++ (primary_and_labels b n t labels ++ [])) k x
        two_more k x these = ⊎_elim
            (λ first. puts_left (closing b) (primary_and_labels b n t labels ++ []) k x first)
            (λ rest. puts_right (closing b) (primary_and_labels b n t labels ++ []) k x
            (puts_left (primary_and_labels b n t labels) [] k x rest))
            (puts_split (closing b) (primary_and_labels b n t labels) k x these)
    plan_by (FromMbr old) is (new, protected, wrote) =
        from_mbr o t (record {
          common = common;
          copies = made (λ x y. from_mbr_phases b n t x y labels new) wrote;
          mbr = subst (λ (x : Order b). OrderIs b d x) is start.order;
          head = new;
          protected = subst (λ (x : List ℕ). IsProtectedFrom n x new) (subst (λ (x : Order b). HeadIn d x) is start.head) protected;
          is = wrote.is;
          unguarded = λ s v puts. clear (FromMbr old) is s v
              (subst (λ (x : List Writes). Puts (writes_before {b = b} (FromMbr old) x) s v) (sym wrote.is)
              (puts_left (copies_and_labels b n t wrote.primary wrote.backup labels) [] s v puts));
        })

    -- where there is nothing against them, they are a plan
    pub passed_plans : Arranged b n t labels chosen phases → IsPlan b d p phases
    passed_plans are = plan_by chosen refl are

-- two targets of one sector are a cause
pub shared_stops : {b : ℕ} (d : Sectors) (o : Option Layout) (p : Layout) (t : Table) (chosen : Order b) (guarded : List TracedRun)
    (ts : List (Target b))
    → IsSectorSize b → CopiesStart d o p t chosen guarded ts → HasTwoOfOne ts → StopsBy b d o p (HasNoCopies b d o p) NotOneSwitch
shared_stops d o p t chosen guarded ts size start two =
    inr (ts, inr (writes_both d o p t chosen guarded ts size start, start.places), two)

module _ {b : ℕ} (n : ℕ) (o : Option Layout) (t : Table) (chosen : Order b) (guarded : List TracedRun)
    (ts sorted first second : List (Target b)) (labels : Writes) (phases : List Writes)
    (size : IsSectorSize b) (order : InSectorOrder ts sorted) (first_is : first ≡ sorted) (second_is : second ≡ sorted)
    (news : AreNewWrites guarded first labels) (are : Arranged b n t labels chosen phases) where
  abbrev news_sorted : AreNewWrites guarded sorted labels
  news_sorted = subst (λ (l : List (Target b)). AreNewWrites guarded l labels) first_is news

  -- on each disk of so many sectors from which they start: a plan
  pub plans : Passes o guarded chosen second phases → (d : Sectors) (p : Layout) → length d ≡ n
      → CopiesStart d o p t chosen guarded ts → IsPlan b d p phases
  plans passes d p count start = passed_plans d o p t chosen guarded ts sorted size start order labels news_sorted phases
      (subst (λ (l : List (Target b)). Passes o guarded chosen l phases) second_is passes)
      (subst (λ (k : ℕ). Arranged b k t labels chosen phases) (sym count) are)

  -- or why there is none
  pub stops : (e : PlanError) → RefusedBy o guarded chosen second phases e → (d : Sectors) (p : Layout) → length d ≡ n
      → CopiesStart d o p t chosen guarded ts → StopsBy b d o p (HasNoCopies b d o p) e
  stops e refused d p count start = refused_stops d o p t chosen guarded ts sorted size start order labels news_sorted phases
      (subst (λ (k : ℕ). Arranged b k t labels chosen phases) (sym count) are)
      e
      (subst (λ (l : List (Target b)). RefusedBy o guarded chosen l phases e) second_is refused)
