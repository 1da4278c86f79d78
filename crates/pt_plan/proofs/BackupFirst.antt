-- A plan that writes the backup copy and the new labels, then other bytes over the primary header, and then the primary copy lands, also
-- where phases that change nothing are left out.
use Rattle.std.proofs.Common.{◌≡◌, ◌∙◌, ◌⊎◌, inl, inr, ⊎_elim, ℕ, ◌+◌, ◌-◌, ◌<◌, ◌≤◌, List, length, replicate, refl, sym, ap, subst}
use Rattle.std.proofs.Common.{arith, Option, Some, ◌++◌, length-append}
use Rattle.pt_sector.specs.Sectors.{Sectors, sector, IsSectorSize, Writes, Puts, written, after}
use Rattle.pt_sector.proofs.Written.{stopped_written, written-append}
use Rattle.pt_sector.specs.inner.ForFields.{length-written}
use Rattle.pt_gpt.specs.Copies.{array_len, CopyWith, HasCopy, SideReads, HasRoom}
use Rattle.pt_gpt.specs.declared.table.Table.{Table}
use Rattle.pt_gpt.specs.declared.table.Side.TheVariants.{Primary, Backup}
use Rattle.pt_recover.specs.Denotes.{Denotes, Reads, BodyIs, IsMbrDisk}
use Rattle.pt_members.specs.Members.{places_of, IsPlace}
use Rattle.pt_recover.proofs.Terms.{stop_keeps_lem}
use Rattle.pt_members.specs.declared.layout.Body.{Body}
use Rattle.pt_members.specs.declared.layout.Layout.{Layout}
use Rattle.pt_layout.specs.Healthy.{IsHealthy, place}
use Rattle.pt_cases.specs.Cases.{IsBackupFirst, labels_and_backup, backup_first_phases}
use Rattle.pt_cases.specs.Writes.{header_of, array_phase, one_write, backup_phase, ComesToHold}
use Rattle.pt_plan.proofs.Landings.{HasBoth, last_written, last_stays, last_misses, IsGood, landed, few_enough, middle}
use Rattle.pt_plan.proofs.Landings.{label_middle, backup_high, primary_low, label_good, one_good, array_good, backup_good, last_good}
use Rattle.pt_plan.proofs.Landings.{backup_there, primary_there, array_filled, labels_met, labels_end}
use Rattle.pt_apply.proofs.Puts.{puts_split}
use Rattle.pt_cases.proofs.FewLemmas.{backup_first_count}
use Rattle.pt_cases.proofs.Frames.{LabelsRight, misses, there_one, one_is, side_stands, labels_right, not_mbr, denotes_gpt}
use Rattle.pt_plan.specs.Commits.{Lands}
use Rattle.pt_cases.proofs.MetLemmas.{labels_met_right}
use Rattle.pt_cases.proofs.Within.{side_within, reads_gpt}
use Rattle.pt_cases.specs.Kept.{AllStand, KeepsBackupFirst}
use Rattle.pt_apply.specs.Plans.{writes_in}
use Rattle.pt_check.specs.Answers.{most_writes}
use Rattle.pt_members.specs.Tables.{OwnedOf}
use Rattle.pt_recover.proofs.Terms.{denotes_one_lem}
use Rattle.pt_plan.proofs.Landings.{landed_fine}
use Rattle.pt_plan.proofs.Needing.{Each, put_each, each_both, each_append, each_needed, each_primary, count_append, count_needed}
use Rattle.pt_plan.proofs.Needing.{count_primary}
use Rattle.pt_plan.proofs.Shutting.{Shut, zeros_shut, bridge_shut, shut_no_copy, shut_misses_low}
use Rattle.pt_plan.proofs.Walks.{Goes, BackupFirstWalk, backup_first_turns, backup_first_goes, after_backup_first}

module _ (b : ℕ) (d : Sectors) (o : Option Layout) (p : Layout) (t : Table) (phases : List Writes) (size : IsSectorSize b)
    (is : IsBackupFirst b d o p t phases) (between : List ℕ) (shut : Shut b (length d) between) where
  abbrev pub n : ℕ
  n = length d

  abbrev pub backup_writes : Writes
  backup_writes = backup_phase b n t is.copies.backup

  abbrev pub primary_array : Writes
  primary_array = array_phase b n t Primary

  abbrev pub p1 : Writes
  p1 = labels_and_backup b n t is.copies.backup is.copies.labels

  abbrev pub primary_header : Writes
  primary_header = one_write 1 is.copies.primary

  abbrev pub meanwhile : Writes
  meanwhile = one_write 1 between

  abbrev pub d1 : Sectors
  d1 = written p1 d

  abbrev pub d2 : Sectors
  d2 = written meanwhile d1

  abbrev pub d3 : Sectors
  d3 = written primary_array d2

  abbrev pub d4 : Sectors
  d4 = written primary_header d3

  pub n1 : length d1 ≡ n
  n1 = length-written p1 d

  pub n2 : length d2 ≡ n
  n2 = length-written meanwhile d1 ∙ n1

  pub n3 : length d3 ≡ n
  n3 = length-written primary_array d2 ∙ n2

  pub n4 : length d4 ≡ n
  n4 = length-written primary_header d3 ∙ n3

  room : HasRoom b n
  room = is.copies.fits.room

  room_of : (c : Sectors) → length c ≡ n → HasRoom b (length c)
  room_of c count = omega (arith, room, count)

  mid : (s : ℕ) → IsPlace (places_of b p.sectors p.body) s → (array_len b + 2 ≤ s) × (s < n - (array_len b + 1))
  mid = middle b d o p t size is.common.sound is.common.sectors is.copies

  pub low : (s : ℕ) (x : List ℕ) → Puts primary_array s x → (2 ≤ s) × (s < array_len b + 2)
  low = primary_low b d o p t size is.common.sound is.common.sectors is.copies

  high : (s : ℕ) (x : List ℕ) → Puts p1 s x → array_len b + 2 ≤ s
  high s x puts = ⊎_elim
      (λ label. (label_middle b d o p t size is.common.sound is.common.sectors is.copies s x label).0)
      (λ back. (let at = backup_high b d o p t size is.common.sound is.common.sectors is.copies s x back in omega (arith, at.0, room)))
      (puts_split is.copies.labels backup_writes s x puts)

  -- the first phase misses what recovery reads
  leaves : (s : ℕ) (x : List ℕ) → Puts p1 s x → ¬ Reads b d s
  leaves s x puts reads = by_kind (reads_gpt b d s is.plain reads)
    where
      at : array_len b + 2 ≤ s
      at = high s x puts

      by_kind : (s ≡ 0) ⊎
          (SideReads b d Primary s
          ⊎ (((¬ HasCopy b d Primary) × SideReads b d Backup s) ⊎ ((y : Body) × BodyIs b d y × IsPlace (places_of b (length d) y) s)))
          → ⊥
      by_kind (inl zero_is) = omega (arith, zero_is, at)
      by_kind (inr (inl first)) =
          ⊎_elim (λ header. omega (arith, header, at)) (λ array. omega (arith, array.1, at)) (side_within b d Primary s size first)
      by_kind (inr (inr (inl (none, back)))) = none is.has_primary
      by_kind (inr (inr (inr (y, y_is, here)))) = is.unguarded s x puts (place y y_is here)

  d1_is : d1 ≡ written backup_writes (written is.copies.labels d)
  d1_is = written-append is.copies.labels backup_writes d

  second1 : CopyWith b d1 Backup (header_of b n t Backup) t
  second1 = subst (λ (c : Sectors). CopyWith b c Backup (header_of b n t Backup) t) (sym d1_is)
      (backup_there b d o p t size is.common.sound is.common.sectors is.copies (written is.copies.labels d)
      (length-written is.copies.labels d))

  ended1 : (s : ℕ) (v : List ℕ) → IsPlace (places_of b p.sectors p.body) s → ComesToHold d is.copies.labels s v → sector d1 s ≡ v
  ended1 s v at ends =
      ap (λ (c : Sectors). sector c s) d1_is
      ∙ misses (written is.copies.labels d) backup_writes s
      (λ x puts. (let up = backup_high b d o p t size is.common.sound is.common.sectors is.copies s x puts in let m = mid s at in
      omega (arith, up.0, m.1)))
      ∙ labels_end b d o p t size is.common.sound is.common.sectors is.copies d s v refl refl at ends

  labels1 : LabelsRight b d1 p
  labels1 = labels_met_right b d o p is.copies.labels d1 (labels_met b d o p t size is.common.sound is.common.sectors is.copies) ended1

  -- the backup is decided high up
  back_high : (c : Sectors) (s : ℕ) → length c ≡ n → SideReads b c Backup s → array_len b + 2 ≤ s
  back_high c s count reads =
      ⊎_elim (λ header. omega (arith, header, count, room)) (λ a. omega (arith, a.0, count, room)) (side_within b c Backup s size reads)

  pub second2 : CopyWith b d2 Backup (header_of b n t Backup) t
  second2 =
      side_stands b d1 meanwhile Backup (header_of b n t Backup) t
      (λ s x puts reads. (let at = one_is 1 s between x puts in let up = back_high d1 s n1 reads in omega (arith, at, up))) second1

  pub second3 : CopyWith b d3 Backup (header_of b n t Backup) t
  second3 =
      side_stands b d2 primary_array Backup (header_of b n t Backup) t
      (λ s x puts reads. (let at = low s x puts in let up = back_high d2 s n2 reads in omega (arith, at.1, up))) second2

  second4 : CopyWith b d4 Backup (header_of b n t Backup) t
  second4 =
      side_stands b d3 primary_header Backup (header_of b n t Backup) t
      (λ s x puts reads. (let at = one_is 1 s is.copies.primary x puts in let up = back_high d3 s n3 reads in
      omega (arith, at, up))) second3

  pub first4 : CopyWith b d4 Primary (header_of b n t Primary) t
  first4 =
      primary_there b d o p t size is.common.sound is.common.sectors is.copies d4 n4
      (there_one d3 1 is.copies.primary (omega (arith, n3, room)))
      (λ k lt. misses d3 primary_header (2 + k) (λ x puts. (let at = one_is 1 (2 + k) is.copies.primary x puts in omega (arith, at)))
      ∙ array_filled b d o p t size is.common.sound is.common.sectors is.copies d2 k n2 lt)

  labels2 : LabelsRight b d2 p
  labels2 =
      labels_right b d1 p meanwhile
      (λ s x puts at. (let one = one_is 1 s between x puts in let up = mid s at in omega (arith, one, up.0))) labels1

  labels3 : LabelsRight b d3 p
  labels3 =
      labels_right b d2 p primary_array (λ s x puts at. (let one = low s x puts in let up = mid s at in omega (arith, one.1, up.0))) labels2

  labels4 : LabelsRight b d4 p
  labels4 =
      labels_right b d3 p primary_header
      (λ s x puts at. (let one = one_is 1 s is.copies.primary x puts in let up = mid s at in omega (arith, one, up.0))) labels3

  same1 : sector d1 0 ≡ sector d 0
  same1 = misses d p1 0 (λ x puts. (let up = high 0 x puts in omega (arith, up)))

  same2 : sector d2 0 ≡ sector d1 0
  same2 = misses d1 meanwhile 0 (λ x puts. (let at = one_is 1 0 between x puts in omega (arith, at)))

  same3 : sector d3 0 ≡ sector d2 0
  same3 = misses d2 primary_array 0 (λ x puts. (let at = low 0 x puts in omega (arith, at.0)))

  same4 : sector d4 0 ≡ sector d3 0
  same4 = misses d3 primary_header 0 (λ x puts. (let at = one_is 1 0 is.copies.primary x puts in omega (arith, at)))

  isnt2 : ¬ IsMbrDisk d2
  isnt2 = not_mbr d d2 n2 (same2 ∙ same1) is.plain

  isnt3 : ¬ IsMbrDisk d3
  isnt3 = not_mbr d d3 n3 (same3 ∙ same2 ∙ same1) is.plain

  isnt4 : ¬ IsMbrDisk d4
  isnt4 = not_mbr d d4 n4 (same4 ∙ same3 ∙ same2 ∙ same1) is.plain

  pub there2 : sector d2 1 ≡ between
  there2 = there_one d1 1 between (omega (arith, n1, room))

  pub there3 : sector d3 1 ≡ between
  there3 = misses d2 primary_array 1 (λ x puts. (let at = low 1 x puts in omega (arith, at.0))) ∙ there2

  old1 : Denotes b d1 o
  old1 = ((stop_keeps_lem b d d1 p1 leaves (stopped_written p1 d)).denotes o).1 is.common.from

  new2 : Denotes b d2 (Some p)
  new2 =
      denotes_gpt b d2 p t is.copies.body (is.common.sectors ∙ sym n2) isnt2 (room_of d2 n2)
      (inr (
        shut_no_copy b n d2 between shut n2 there2,
        record { room = room_of d2 n2; head = header_of b n t Backup; stands = second2 },
      )) labels2

  new3 : Denotes b d3 (Some p)
  new3 =
      denotes_gpt b d3 p t is.copies.body (is.common.sectors ∙ sym n3) isnt3 (room_of d3 n3)
      (inr (
        shut_no_copy b n d3 between shut n3 there3,
        record { room = room_of d3 n3; head = header_of b n t Backup; stands = second3 },
      )) labels3

  new4 : Denotes b d4 (Some p)
  new4 =
      denotes_gpt b d4 p t is.copies.body (is.common.sectors ∙ sym n4) isnt4 (room_of d4 n4)
      (inl (record { room = room_of d4 n4; head = header_of b n t Primary; stands = first4 })) labels4

  calm3 : (s : ℕ) (x : List ℕ) → Puts primary_array s x → ¬ Reads b d2 s
  calm3 =
      shut_misses_low b d2 p primary_array size isnt2 (room_of d2 n2) (λ h is_head. shut d2 h n2 there2 is_head) new2
      (λ s at. (mid s (subst (λ (m : ℕ). IsPlace (places_of b m p.body) s) (n2 ∙ sym is.common.sectors) at)).0) low

  both4 : HasBoth b n d4 p t
  both4 = record { first = first4; second = second4; labels = labels4 }

  above : (s : ℕ) → IsPlace (places_of b p.sectors p.body) s → array_len b + 2 ≤ s
  above s at = (mid s at).0

  pub high_first : (s : ℕ) (x : List ℕ) → Puts p1 s x → (2 ≤ s) × (array_len b + 2 ≤ s)
  high_first s x puts = let at = high s x puts in (omega (arith, at), at)

  pub some : 1 < length d
  some = omega (arith, room)

  pub end_healthy : IsHealthy b (after is.last d4) p
  end_healthy =
      last_written b n p t size is.copies.body is.common.sectors room is.common.sound above d4 (sector d 0) is.last n4 both4
      (same4 ∙ same3 ∙ same2 ∙ same1) is.protects

  pub end_denotes : Denotes b d4 (Some p)
  end_denotes = new4

  pub backup_first_walk : BackupFirstWalk d p1 primary_array between is.copies.primary is.last (array_len b + 2) some low high_first
      (Denotes b) (Reads b) o (Some p) (denotes_one_lem b)
  backup_first_walk = record {
    from = is.common.from;
    calm = inr leaves;
    old1 = old1;
    new2 = new2;
    calm3 = inr calm3;
    new3 = new3;
    rest = last_stays b n p t size is.copies.body is.common.sectors room is.common.sound above d4 (sector d 0) is.last n4 both4 new4
        is.protects;
  }

  -- each label place ends as it is to
  pub end_labels : (s : ℕ) (v : List ℕ) → IsPlace (places_of b p.sectors p.body) s → ComesToHold d is.copies.labels s v
      → sector (after is.last d4) s ≡ v
  end_labels s v at ends =
      let m = mid s at in
      last_misses n (sector d 0) is.last d4 s (omega (arith, m.0)) is.protects
      ∙ misses d3 primary_header s (λ x puts. (let one = one_is 1 s is.copies.primary x puts in omega (arith, one, m.0)))
      ∙ misses d2 primary_array s (λ x puts. (let one = low s x puts in omega (arith, one.1, m.0)))
      ∙ misses d1 meanwhile s (λ x puts. (let one = one_is 1 s between x puts in omega (arith, one, m.0)))
      ∙ ended1 s v at ends

-- ## The plan that zeroes the primary header.

module _ (b : ℕ) (d : Sectors) (o : Option Layout) (p : Layout) (t : Table) (phases : List Writes) (size : IsSectorSize b)
    (is : IsBackupFirst b d o p t phases) where
  abbrev planned : List Writes
  planned = backup_first_phases b (length d) t is.copies.primary is.copies.backup is.copies.labels is.last

  zeros : Shut b (length d) (replicate b 0)
  zeros = zeros_shut b (length d) size

  good : Each (IsGood b d p) planned
  good = (
    λ s x puts. ⊎_elim
        (λ label. label_good b d o p t size is.common.sound is.common.sectors is.copies s x label)
        (λ back. backup_good b d o p t size is.common.sound is.common.sectors is.copies s x back)
        (puts_split is.copies.labels (backup_phase b (length d) t is.copies.backup) s x puts),
    (
      one_good b d o p t size is.common.sound is.common.sectors is.copies (replicate b 0),
      (
        array_good b d o p t size is.common.sound is.common.sectors is.copies,
        (
          one_good b d o p t size is.common.sound is.common.sectors is.copies is.copies.primary,
          last_good b d o p t size is.common.sound is.common.sectors is.copies is.last is.protects,
        ),
      ),
    ),
  )

  count : length (writes_in planned) ≤ most_writes
  count = few_enough b d o p t size is.common.sound is.common.sectors is.copies _ (backup_first_count b d o p t phases is)

  pub backup_first_lands : Lands b d o p phases 2
  backup_first_lands = landed b d o p phases planned 1 is.common is.is count good
      (backup_first_turns _ _ _ _ _ _ _ _ _ _ _ _ _ _ _ (backup_first_walk b d o p t phases size is (replicate b 0) zeros))
      (end_healthy b d o p t phases size is (replicate b 0) zeros)

  pub backup_first_ended : (s : ℕ) (v : List ℕ) → IsPlace (places_of b p.sectors p.body) s → ComesToHold d is.copies.labels s v
      → sector (after phases d) s ≡ v
  backup_first_ended s v at ends = ap (λ (ps : List Writes). sector (after ps d) s) is.is
      ∙ end_labels b d o p t phases size is (replicate b 0) zeros s v at ends

  -- ## The plan that keeps the primary copy.

  fine : Each (λ s v. IsGood b d p s v × ¬ OwnedOf b o s) planned
  fine = each_both (IsGood b d p) (λ s v. ¬ OwnedOf b o s) planned good (put_each (λ s v. ¬ OwnedOf b o s) planned
      (λ s v puts. is.common.free s v (subst (λ (ps : List Writes). Puts (writes_in ps) s v) (sym is.is) puts)))

  module _ (kept_phases : List Writes) (kept : KeepsBackupFirst b d o p t phases is kept_phases) where
    pub bridge_stays_shut : Shut b (length d) kept.bridge
    bridge_stays_shut = bridge_shut b (length d) is.copies.backup kept.bridge (header_of b (length d) t Backup) is.copies.fits.room
        is.copies.is_backup.header refl kept.is_bridge

    -- a disk with a primary copy has no such header
    pub bridge_is_new : ¬ AllStand d (one_write 1 kept.bridge)
    bridge_is_new all =
        shut_no_copy b (length d) d kept.bridge bridge_stays_shut refl (all 1 kept.bridge (inl (refl, refl))) is.has_primary

    abbrev end : Sectors
    end = after is.last (d4 b d o p t phases size is kept.bridge bridge_stays_shut)

    after_kept : after kept_phases d ≡ end
    after_kept = ap (λ (ps : List Writes). after ps d) kept.are
        ∙ after_backup_first d (labels_and_backup b (length d) t is.copies.backup is.copies.labels) (array_phase b (length d) t Primary)
        kept.bridge is.copies.primary is.last (array_len b + 2)
        (some b d o p t phases size is kept.bridge bridge_stays_shut) (low b d o p t phases size is kept.bridge bridge_stays_shut)
        (high_first b d o p t phases size is kept.bridge bridge_stays_shut)
        kept.front kept.middle kept.is_front bridge_is_new kept.is_middle

    goes : Goes (Denotes b) (Reads b) (length kept.front + 1) (kept.front ++ (kept.middle ++ is.last)) d o (Some p)
    goes = backup_first_goes d (labels_and_backup b (length d) t is.copies.backup is.copies.labels) (array_phase b (length d) t Primary)
        kept.bridge is.copies.primary is.last (array_len b + 2)
        (some b d o p t phases size is kept.bridge bridge_stays_shut) (low b d o p t phases size is kept.bridge bridge_stays_shut)
        (high_first b d o p t phases size is kept.bridge bridge_stays_shut) (Denotes b) (Reads b) o (Some p) (denotes_one_lem b)
        (backup_first_walk b d o p t phases size is kept.bridge bridge_stays_shut)
        (end_denotes b d o p t phases size is kept.bridge bridge_stays_shut)
        kept.front kept.middle kept.is_front bridge_is_new kept.is_middle

    fine_kept : Each (λ s v. IsGood b d p s v × ¬ OwnedOf b o s) (kept.front ++ (kept.middle ++ is.last))
    fine_kept =
        let P : ℕ → List ℕ → Type 0 = λ s v. IsGood b d p s v × ¬ OwnedOf b o s in
        each_append P kept.front (kept.middle ++ is.last) (each_needed P d _ kept.front fine.0 kept.is_front)
        (each_append P kept.middle is.last
        (each_primary P d _ _ _ kept.middle
        (λ s x puts. (
          one_good b d o p t size is.common.sound is.common.sectors is.copies kept.bridge s x puts,
          (fine.1.0 s (replicate b 0) (inl (sym (one_is 1 s kept.bridge x puts), refl))).1,
        ))
        fine.1.1.0 fine.1.1.1.0 kept.is_middle)
        fine.1.1.1.1)

    few : length (writes_in (kept.front ++ (kept.middle ++ is.last))) ≤ most_writes
    few =
        let p1 = labels_and_backup b (length d) t is.copies.backup is.copies.labels in
        let array = array_phase b (length d) t Primary in
        let one = count_append kept.front (kept.middle ++ is.last) in
        let two = count_append kept.middle is.last in
        let three = count_needed d p1 kept.front kept.is_front in
        let four = count_primary d (one_write 1 kept.bridge) array (one_write 1 is.copies.primary) kept.middle kept.is_middle in
        let five = length-append p1 (one_write 1 (replicate b 0) ++ (array ++ (one_write 1 is.copies.primary ++ writes_in is.last))) in
        let six = length-append array (one_write 1 is.copies.primary ++ writes_in is.last) in
        omega (arith, one, two, three, four, five, six, count)

    pub kept_backup_first_lands : Lands b d o p kept_phases (length kept.front + 1)
    kept_backup_first_lands = subst (λ (ps : List Writes). Lands b d o p ps (length kept.front + 1)) (sym kept.are)
        (landed_fine b d o p phases (kept.front ++ (kept.middle ++ is.last)) (length kept.front + 1) is.common few fine_kept goes
        (subst (λ (c : Sectors). IsHealthy b c p) (sym (ap (λ (ps : List Writes). after ps d) (sym kept.are) ∙ after_kept))
        (end_healthy b d o p t phases size is kept.bridge bridge_stays_shut)))

    pub kept_backup_first_ended : (s : ℕ) (v : List ℕ) → IsPlace (places_of b p.sectors p.body) s → ComesToHold d is.copies.labels s v
        → sector (after kept_phases d) s ≡ v
    kept_backup_first_ended s v at ends = ap (λ (c : Sectors). sector c s) after_kept
        ∙ end_labels b d o p t phases size is kept.bridge bridge_stays_shut s v at ends
