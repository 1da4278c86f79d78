-- A plan that writes other bytes over a primary header that makes no copy, then the primary copy and the new labels, and then the backup
-- copy lands, also where phases that change nothing are left out.
use Rattle.std.proofs.Common.{◌≡◌, ◌∙◌, ◌⊎◌, inl, inr, ⊎_elim, ℕ, ◌+◌, ◌-◌, ◌<◌, ◌≤◌, List, length, replicate, refl, sym, ap, subst}
use Rattle.std.proofs.Common.{arith, Option, Some, None, ◌++◌, length-append}
use Rattle.pt_sector.specs.Sectors.{Sectors, sector, IsSectorSize, Writes, Puts, written, after}
use Rattle.pt_sector.proofs.Written.{stopped_written, written-append}
use Rattle.pt_sector.specs.inner.ForFields.{length-written}
use Rattle.pt_gpt.specs.Copies.{array_len, CopyWith, HasCopy, SideReads, HasRoom}
use Rattle.pt_gpt.specs.declared.table.Table.{Table}
use Rattle.pt_gpt.specs.declared.table.Side.TheVariants.{Primary, Backup}
use Rattle.pt_recover.specs.Denotes.{Denotes, Reads, BodyIs, IsMbrDisk}
use Rattle.pt_members.specs.Members.{places_of, IsPlace}
use Rattle.pt_recover.proofs.One.{body_one}
use Rattle.pt_recover.proofs.Terms.{stop_keeps_lem}
use Rattle.pt_members.specs.declared.layout.Body.{Body}
use Rattle.pt_members.specs.declared.layout.Layout.{Layout}
use Rattle.pt_layout.specs.Healthy.{IsHealthy, place}
use Rattle.pt_cases.specs.Cases.{IsPrimaryFirst, primary_and_labels, primary_first_phases}
use Rattle.pt_plan.proofs.Landings.{HasBoth, last_written, last_stays, last_misses, IsGood}
use Rattle.pt_plan.proofs.Landings.{landed, few_enough, middle, label_middle, backup_high, primary_low, label_good, one_good, array_good}
use Rattle.pt_plan.proofs.Landings.{backup_good, last_good, backup_there, primary_there, array_filled, labels_met, labels_end}
use Rattle.pt_cases.specs.Writes.{header_of, array_phase, one_write, backup_phase, ComesToHold}
use Rattle.pt_apply.proofs.Puts.{puts_split}
use Rattle.pt_cases.proofs.FewLemmas.{primary_first_count}
use Rattle.pt_cases.proofs.Frames.{LabelsRight, misses, there_one, one_is, side_stands, labels_right, not_mbr, denotes_gpt}
use Rattle.pt_plan.specs.Commits.{Lands}
use Rattle.pt_cases.proofs.MetLemmas.{labels_met_right}
use Rattle.pt_cases.proofs.Within.{side_within, reads_gpt}
use Rattle.pt_cases.specs.Kept.{KeepsPrimaryFirst}
use Rattle.pt_apply.specs.Plans.{writes_in}
use Rattle.pt_check.specs.Answers.{most_writes}
use Rattle.pt_members.specs.Tables.{OwnedOf}
use Rattle.pt_recover.proofs.Terms.{denotes_one_lem}
use Rattle.pt_plan.proofs.Landings.{landed_fine}
use Rattle.pt_plan.proofs.Needing.{Each, put_each, each_both, each_append, each_needed, each_primary, count_append, count_needed}
use Rattle.pt_plan.proofs.Needing.{count_primary}
use Rattle.pt_plan.proofs.Shutting.{Shut, zeros_shut, opening_shut, isnt_closed, there_closed, closed_keeps}
use Rattle.pt_plan.proofs.Walks.{Goes, PrimaryFirstWalk, primary_first_turns, primary_first_goes, after_primary_first}

module _ (b : ℕ) (d : Sectors) (o : Option Layout) (p : Layout) (t : Table) (phases : List Writes) (size : IsSectorSize b)
    (is : IsPrimaryFirst b d o p t phases) (between : List ℕ) (shut : Shut b (length d) between) where
  abbrev pub n : ℕ
  n = length d

  abbrev pub backup_writes : Writes
  backup_writes = backup_phase b n t is.copies.backup

  abbrev pub primary_array : Writes
  primary_array = array_phase b n t Primary

  abbrev pub p2 : Writes
  p2 = primary_and_labels b n t is.copies.labels

  abbrev pub primary_header : Writes
  primary_header = one_write 1 is.copies.primary

  abbrev pub meanwhile : Writes
  meanwhile = one_write 1 between

  abbrev pub d1 : Sectors
  d1 = written meanwhile d

  abbrev pub d2 : Sectors
  d2 = written p2 d1

  abbrev pub d3 : Sectors
  d3 = written primary_header d2

  abbrev pub d4 : Sectors
  d4 = written backup_writes d3

  pub n1 : length d1 ≡ n
  n1 = length-written meanwhile d

  pub n2 : length d2 ≡ n
  n2 = length-written p2 d1 ∙ n1

  pub n3 : length d3 ≡ n
  n3 = length-written primary_header d2 ∙ n2

  pub n4 : length d4 ≡ n
  n4 = length-written backup_writes d3 ∙ n3

  room : HasRoom b n
  room = is.copies.fits.room

  room_of : (c : Sectors) → length c ≡ n → HasRoom b (length c)
  room_of c count = omega (arith, room, count)

  place_mid : (s : ℕ) → IsPlace (places_of b p.sectors p.body) s → (array_len b + 2 ≤ s) × (s < n - (array_len b + 1))
  place_mid = middle b d o p t size is.common.sound is.common.sectors is.copies

  low : (s : ℕ) (x : List ℕ) → Puts primary_array s x → (2 ≤ s) × (s < array_len b + 2)
  low = primary_low b d o p t size is.common.sound is.common.sectors is.copies

  label_mid : (s : ℕ) (x : List ℕ) → Puts is.copies.labels s x → (array_len b + 2 ≤ s) × (s < n - (array_len b + 1))
  label_mid = label_middle b d o p t size is.common.sound is.common.sectors is.copies

  high : (s : ℕ) (x : List ℕ) → Puts backup_writes s x → (n - (array_len b + 1) ≤ s) × (s < n)
  high = backup_high b d o p t size is.common.sound is.common.sectors is.copies

  pub mid : (s : ℕ) (x : List ℕ) → Puts p2 s x → (2 ≤ s) × (s < n - (array_len b + 1))
  mid s x puts = ⊎_elim
      (λ array. (let at = low s x array in (at.0, omega (arith, at.1, room))))
      (λ label. (let at = label_mid s x label in (omega (arith, at.0), at.1)))
      (puts_split primary_array is.copies.labels s x puts)

  -- the label places of what the disk denotes aren't written before the switch
  closes : (l : Layout) → o ≡ Some l → ¬ IsPlace (places_of b n l.body) 1
  closes l same at = is.unguarded 1 (replicate b 0) (inl (refl, refl)) (place l.body (subst (Denotes b d) same is.common.from).1 at)

  clear : (s : ℕ) (x : List ℕ) → Puts p2 s x → (l : Layout) → o ≡ Some l → ¬ IsPlace (places_of b n l.body) s
  clear s x puts l same at = is.unguarded s x (inr puts) (place l.body (subst (Denotes b d) same is.common.from).1 at)

  d2_is : d2 ≡ written is.copies.labels (written primary_array d1)
  d2_is = written-append primary_array is.copies.labels d1

  same1 : sector d1 0 ≡ sector d 0
  same1 = misses d meanwhile 0 (λ x puts. (let at = one_is 1 0 between x puts in omega (arith, at)))

  same2 : sector d2 0 ≡ sector d1 0
  same2 = misses d1 p2 0 (λ x puts. (let at = mid 0 x puts in omega (arith, at.0)))

  same3 : sector d3 0 ≡ sector d2 0
  same3 = misses d2 primary_header 0 (λ x puts. (let at = one_is 1 0 is.copies.primary x puts in omega (arith, at)))

  same4 : sector d4 0 ≡ sector d3 0
  same4 = misses d3 backup_writes 0 (λ x puts. (let at = high 0 x puts in omega (arith, at.0, room)))

  isnt1 : ¬ IsMbrDisk d1
  isnt1 = isnt_closed b d between size is.plain room is.no_primary shut

  isnt3 : ¬ IsMbrDisk d3
  isnt3 = not_mbr d d3 n3 (same3 ∙ same2 ∙ same1) is.plain

  isnt4 : ¬ IsMbrDisk d4
  isnt4 = not_mbr d d4 n4 (same4 ∙ same3 ∙ same2 ∙ same1) is.plain

  old1 : Denotes b d1 o
  old1 = closed_keeps b d between size is.plain room is.no_primary shut o closes is.common.from

  pub there1 : sector d1 1 ≡ between
  there1 = there_closed b d between size is.plain room is.no_primary shut

  no_place : (q : Option Layout) → q ≡ o → Denotes b d1 q → (s : ℕ) (x : List ℕ) → Puts p2 s x → (y : Body) → BodyIs b d1 y
      → ¬ IsPlace (places_of b (length d1) y) s
  no_place None same denotes s x puts y y_is = absurd (denotes y y_is)
  no_place (Some l) same denotes s x puts y y_is = λ at.
      clear s x puts l (sym same)
      (subst (λ (z : Body). IsPlace (places_of b n z) s) (body_one b d1 y l.body y_is denotes.1)
      (subst (λ (m : ℕ). IsPlace (places_of b m y) s) n1 at))

  calm2 : (s : ℕ) (x : List ℕ) → Puts p2 s x → ¬ Reads b d1 s
  calm2 s x puts reads = by_kind (reads_gpt b d1 s isnt1 reads)
    where
      at : (2 ≤ s) × (s < n - (array_len b + 1))
      at = mid s x puts

      by_kind : (s ≡ 0) ⊎
          (SideReads b d1 Primary s
          ⊎ (((¬ HasCopy b d1 Primary) × SideReads b d1 Backup s) ⊎ ((y : Body) × BodyIs b d1 y × IsPlace (places_of b (length d1) y) s)))
          → ⊥
      by_kind (inl zero_is) = omega (arith, zero_is, at.0)
      by_kind (inr (inl (inl header))) = omega (arith, header, at.0)
      by_kind (inr (inl (inr (header, here, inside)))) = shut d1 header n1 there1 here
      by_kind (inr (inr (inl (none, back)))) =
          ⊎_elim (λ header. omega (arith, header, at.1, n1, room)) (λ a. omega (arith, a.0, at.1, n1)) (side_within b d1 Backup s size back)
      by_kind (inr (inr (inr (y, y_is, here)))) = no_place o refl old1 s x puts y y_is here

  old2 : Denotes b d2 o
  old2 = ((stop_keeps_lem b d1 d2 p2 calm2 (stopped_written p2 d1)).denotes o).1 old1

  ended2 : (s : ℕ) (v : List ℕ) → IsPlace (places_of b p.sectors p.body) s → ComesToHold d is.copies.labels s v → sector d2 s ≡ v
  ended2 s v at ends =
      ap (λ (c : Sectors). sector c s) d2_is
      ∙ labels_end b d o p t size is.common.sound is.common.sectors is.copies (written primary_array d1) s v
      (length-written primary_array d1 ∙ n1)
      (misses d1 primary_array s (λ x puts. (let up = low s x puts in let m = place_mid s at in omega (arith, up.1, m.0)))
      ∙ misses d meanwhile s (λ x puts. (let up = one_is 1 s between x puts in let m = place_mid s at in omega (arith, up, m.0))))
      at ends

  labels2 : LabelsRight b d2 p
  labels2 = labels_met_right b d o p is.copies.labels d2 (labels_met b d o p t size is.common.sound is.common.sectors is.copies) ended2

  labels3 : LabelsRight b d3 p
  labels3 =
      labels_right b d2 p primary_header
      (λ s x puts at. (let one = one_is 1 s is.copies.primary x puts in let up = place_mid s at in omega (arith, one, up.0))) labels2

  labels4 : LabelsRight b d4 p
  labels4 =
      labels_right b d3 p backup_writes
      (λ s x puts at. (let one = high s x puts in let up = place_mid s at in omega (arith, one.0, up.1))) labels3

  pub first3 : CopyWith b d3 Primary (header_of b n t Primary) t
  first3 =
      primary_there b d o p t size is.common.sound is.common.sectors is.copies d3 n3
      (there_one d2 1 is.copies.primary (omega (arith, n2, room)))
      (λ k lt. misses d2 primary_header (2 + k) (λ x puts. (let at = one_is 1 (2 + k) is.copies.primary x puts in omega (arith, at)))
      ∙ ap (λ (c : Sectors). sector c (2 + k)) d2_is
      ∙ misses (written primary_array d1) is.copies.labels (2 + k)
      (λ x puts. (let at = label_mid (2 + k) x puts in omega (arith, at.0, lt)))
      ∙ array_filled b d o p t size is.common.sound is.common.sectors is.copies d1 k n1 lt)

  pub first4 : CopyWith b d4 Primary (header_of b n t Primary) t
  first4 =
      side_stands b d3 backup_writes Primary (header_of b n t Primary) t
      (λ s x puts reads. (let at = high s x puts in
      ⊎_elim (λ header. omega (arith, at.0, header, room)) (λ a. omega (arith, at.0, a.1, room))
      (side_within b d3 Primary s size reads))) first3

  second4 : CopyWith b d4 Backup (header_of b n t Backup) t
  second4 = backup_there b d o p t size is.common.sound is.common.sectors is.copies d3 n3

  both4 : HasBoth b n d4 p t
  both4 = record { first = first4; second = second4; labels = labels4 }

  new3 : Denotes b d3 (Some p)
  new3 =
      denotes_gpt b d3 p t is.copies.body (is.common.sectors ∙ sym n3) isnt3 (room_of d3 n3)
      (inl (record { room = room_of d3 n3; head = header_of b n t Primary; stands = first3 })) labels3

  new4 : Denotes b d4 (Some p)
  new4 =
      denotes_gpt b d4 p t is.copies.body (is.common.sectors ∙ sym n4) isnt4 (room_of d4 n4)
      (inl (record { room = room_of d4 n4; head = header_of b n t Primary; stands = first4 })) labels4

  calm4 : (s : ℕ) (x : List ℕ) → Puts backup_writes s x → ¬ Reads b d3 s
  calm4 s x puts reads = by_kind (reads_gpt b d3 s isnt3 reads)
    where
      at : (n - (array_len b + 1) ≤ s) × (s < n)
      at = high s x puts

      by_kind : (s ≡ 0) ⊎
          (SideReads b d3 Primary s
          ⊎ (((¬ HasCopy b d3 Primary) × SideReads b d3 Backup s) ⊎ ((y : Body) × BodyIs b d3 y × IsPlace (places_of b (length d3) y) s)))
          → ⊥
      by_kind (inl zero_is) = omega (arith, zero_is, at.0, room)
      by_kind (inr (inl first)) =
          ⊎_elim (λ header. omega (arith, header, at.0, room)) (λ a. omega (arith, a.1, at.0, room)) (side_within b d3 Primary s size first)
      by_kind (inr (inr (inl (none, back)))) = none (t, record { room = room_of d3 n3; head = header_of b n t Primary; stands = first3 })
      by_kind (inr (inr (inr (y, y_is, here)))) =
          let one : y ≡ p.body = body_one b d3 y p.body y_is new3.1 in
          let up =
          place_mid s
          (subst (λ (m : ℕ). IsPlace (places_of b m p.body) s) (n3 ∙ sym is.common.sectors)
          (subst (λ (z : Body). IsPlace (places_of b (length d3) z) s) one here)) in
          omega (arith, up.1, at.0)

  above : (s : ℕ) → IsPlace (places_of b p.sectors p.body) s → array_len b + 2 ≤ s
  above s at = (place_mid s at).0

  pub above_backup : (s : ℕ) (x : List ℕ) → Puts backup_writes s x → n - (array_len b + 1) ≤ s
  above_backup s x puts = (high s x puts).0

  pub some : 1 < length d
  some = omega (arith, room)

  pub past : 2 ≤ n - (array_len b + 1)
  past = omega (arith, room)

  pub end_healthy : IsHealthy b (after is.last d4) p
  end_healthy =
      last_written b n p t size is.copies.body is.common.sectors room is.common.sound above d4 (sector d 0) is.last n4 both4
      (same4 ∙ same3 ∙ same2 ∙ same1) is.protects

  pub primary_first_walk : PrimaryFirstWalk d p2 backup_writes between is.copies.primary is.last (n - (array_len b + 1)) some past mid
      above_backup (Denotes b) (Reads b) o (Some p) (denotes_one_lem b)
  primary_first_walk = record {
    from = is.common.from;
    old1 = old1;
    calm2 = inr calm2;
    old2 = old2;
    new3 = new3;
    calm4 = inr calm4;
    rest = last_stays b n p t size is.copies.body is.common.sectors room is.common.sound above d4 (sector d 0) is.last n4 both4 new4
        is.protects;
  }

  -- each label place ends as it is to
  pub end_labels : (s : ℕ) (v : List ℕ) → IsPlace (places_of b p.sectors p.body) s → ComesToHold d is.copies.labels s v
      → sector (after is.last d4) s ≡ v
  end_labels s v at ends =
      let m = place_mid s at in
      last_misses n (sector d 0) is.last d4 s (omega (arith, m.0)) is.protects
      ∙ misses d3 backup_writes s (λ x puts. (let up = high s x puts in omega (arith, up.0, m.1)))
      ∙ misses d2 primary_header s (λ x puts. (let one = one_is 1 s is.copies.primary x puts in omega (arith, one, m.0)))
      ∙ ended2 s v at ends

-- ## The plan that zeroes the primary header.

module _ (b : ℕ) (d : Sectors) (o : Option Layout) (p : Layout) (t : Table) (phases : List Writes) (size : IsSectorSize b)
    (is : IsPrimaryFirst b d o p t phases) where
  abbrev planned : List Writes
  planned = primary_first_phases b (length d) t is.copies.primary is.copies.backup is.copies.labels is.last

  zeros : Shut b (length d) (replicate b 0)
  zeros = zeros_shut b (length d) size

  good : Each (IsGood b d p) planned
  good = (
    one_good b d o p t size is.common.sound is.common.sectors is.copies (replicate b 0),
    (
      λ s x puts. ⊎_elim
          (λ array. array_good b d o p t size is.common.sound is.common.sectors is.copies s x array)
          (λ label. label_good b d o p t size is.common.sound is.common.sectors is.copies s x label)
          (puts_split (array_phase b (length d) t Primary) is.copies.labels s x puts),
      (
        one_good b d o p t size is.common.sound is.common.sectors is.copies is.copies.primary,
        (
          backup_good b d o p t size is.common.sound is.common.sectors is.copies,
          last_good b d o p t size is.common.sound is.common.sectors is.copies is.last is.protects,
        ),
      ),
    ),
  )

  count : length (writes_in planned) ≤ most_writes
  count = few_enough b d o p t size is.common.sound is.common.sectors is.copies _ (primary_first_count b d o p t phases is)

  pub primary_first_lands : Lands b d o p phases 3
  primary_first_lands = landed b d o p phases planned 2 is.common is.is count good
      (primary_first_turns _ _ _ _ _ _ _ _ _ _ _ _ _ _ _ _ (primary_first_walk b d o p t phases size is (replicate b 0) zeros))
      (end_healthy b d o p t phases size is (replicate b 0) zeros)

  pub primary_first_ended : (s : ℕ) (v : List ℕ) → IsPlace (places_of b p.sectors p.body) s → ComesToHold d is.copies.labels s v
      → sector (after phases d) s ≡ v
  primary_first_ended s v at ends = ap (λ (ps : List Writes). sector (after ps d) s) is.is
      ∙ end_labels b d o p t phases size is (replicate b 0) zeros s v at ends

  -- ## The plan that keeps the primary copy.

  fine : Each (λ s v. IsGood b d p s v × ¬ OwnedOf b o s) planned
  fine = each_both (IsGood b d p) (λ s v. ¬ OwnedOf b o s) planned good (put_each (λ s v. ¬ OwnedOf b o s) planned
      (λ s v puts. is.common.free s v (subst (λ (ps : List Writes). Puts (writes_in ps) s v) (sym is.is) puts)))

  module _ (kept_phases : List Writes) (kept : KeepsPrimaryFirst b d o p t phases is kept_phases) where
    pub opening_stays_shut : Shut b (length d) kept.opening
    opening_stays_shut = opening_shut b d o kept.opening size is.plain is.no_primary is.copies.fits.room is.common.from kept.is_opening

    abbrev end : Sectors
    end = after is.last (d4 b d o p t phases size is kept.opening opening_stays_shut)

    after_kept : after kept_phases d ≡ end
    after_kept = ap (λ (ps : List Writes). after ps d) kept.are
        ∙ after_primary_first d (primary_and_labels b (length d) t is.copies.labels) (backup_phase b (length d) t is.copies.backup)
        kept.opening is.copies.primary is.last (length d - (array_len b + 1))
        (some b d o p t phases size is kept.opening opening_stays_shut) (past b d o p t phases size is kept.opening opening_stays_shut)
        (mid b d o p t phases size is kept.opening opening_stays_shut)
        (above_backup b d o p t phases size is kept.opening opening_stays_shut)
        kept.middle kept.back kept.is_middle kept.is_back

    goes : Goes (Denotes b) (Reads b) (length kept.middle) (kept.middle ++ (kept.back ++ is.last)) d o (Some p)
    goes = primary_first_goes d (primary_and_labels b (length d) t is.copies.labels) (backup_phase b (length d) t is.copies.backup)
        kept.opening is.copies.primary is.last (length d - (array_len b + 1))
        (some b d o p t phases size is kept.opening opening_stays_shut) (past b d o p t phases size is kept.opening opening_stays_shut)
        (mid b d o p t phases size is kept.opening opening_stays_shut)
        (above_backup b d o p t phases size is kept.opening opening_stays_shut)
        (Denotes b) (Reads b) o (Some p) (denotes_one_lem b)
        (primary_first_walk b d o p t phases size is kept.opening opening_stays_shut)
        kept.middle kept.back kept.is_middle kept.is_back

    fine_kept : Each (λ s v. IsGood b d p s v × ¬ OwnedOf b o s) (kept.middle ++ (kept.back ++ is.last))
    fine_kept =
        let P : ℕ → List ℕ → Type 0 = λ s v. IsGood b d p s v × ¬ OwnedOf b o s in
        each_append P kept.middle (kept.back ++ is.last)
        (each_primary P d _ _ _ kept.middle
        (λ s x puts. (
          one_good b d o p t size is.common.sound is.common.sectors is.copies kept.opening s x puts,
          (fine.0 s (replicate b 0) (inl (sym (one_is 1 s kept.opening x puts), refl))).1,
        ))
        fine.1.0 fine.1.1.0 kept.is_middle)
        (each_append P kept.back is.last (each_needed P d _ kept.back fine.1.1.1.0 kept.is_back) fine.1.1.1.1)

    few : length (writes_in (kept.middle ++ (kept.back ++ is.last))) ≤ most_writes
    few =
        let p2 = primary_and_labels b (length d) t is.copies.labels in
        let back = backup_phase b (length d) t is.copies.backup in
        let one = count_append kept.middle (kept.back ++ is.last) in
        let two = count_append kept.back is.last in
        let three = count_needed d back kept.back kept.is_back in
        let four = count_primary d (one_write 1 kept.opening) p2 (one_write 1 is.copies.primary) kept.middle kept.is_middle in
        let five = length-append p2 (one_write 1 is.copies.primary ++ (back ++ writes_in is.last)) in
        let six = length-append back (writes_in is.last) in
        omega (arith, one, two, three, four, five, six, count)

    pub kept_primary_first_lands : Lands b d o p kept_phases (length kept.middle)
    kept_primary_first_lands = subst (λ (ps : List Writes). Lands b d o p ps (length kept.middle)) (sym kept.are)
        (landed_fine b d o p phases (kept.middle ++ (kept.back ++ is.last)) (length kept.middle) is.common few fine_kept goes
        (subst (λ (c : Sectors). IsHealthy b c p) (sym (ap (λ (ps : List Writes). after ps d) (sym kept.are) ∙ after_kept))
        (end_healthy b d o p t phases size is kept.opening opening_stays_shut)))

    pub kept_primary_first_ended : (s : ℕ) (v : List ℕ) → IsPlace (places_of b p.sectors p.body) s → ComesToHold d is.copies.labels s v
        → sector (after kept_phases d) s ≡ v
    kept_primary_first_ended s v at ends = ap (λ (c : Sectors). sector c s) after_kept
        ∙ end_labels b d o p t phases size is kept.opening opening_stays_shut s v at ends
