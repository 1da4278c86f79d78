-- What a plan of any kind lands by, and what its phases end in.
use Rattle.std.proofs.Common.{◌≡◌, ◌⊎◌, inl, inr, ⊎_elim, ℕ, zero, suc, ◌+◌, ◌<◌, ◌≤◌, List, [], ◌∷◌, length, take, refl, sym, subst}
use Rattle.std.proofs.Common.{Option, Some, None, ◌∙◌, ap, arith, ◌-◌}
use Rattle.pt_sector.specs.Sectors.{Sectors, sector, Writes, Puts, written, after, IsSectorSize}
use Rattle.pt_recover.specs.Denotes.{Denotes, Reads, IsMbrDisk}
use Rattle.pt_members.specs.declared.layout.Layout.{Layout}
use Rattle.pt_layout.specs.Healthy.{IsHealthy, NameEachOther, IsWhole, IsBodyWhole}
use Rattle.pt_layout.proofs.Terms.{sound_frees_tables_lem}
use Rattle.pt_layout.specs.Sound.{Sound}
use Rattle.pt_members.specs.Tables.{IsTable, OwnedOf, IsBodyTable, IsGptTable}
use Rattle.pt_check.proofs.Accepted.{accepted_lem, got_puts}
use Rattle.pt_check.specs.Answers.{InNoTable, InOwned, most_writes, IsPastLast, ChangesBoot, IsFit}
use Rattle.pt_apply.specs.Plans.{writes_in, NoneIs}
use Rattle.pt_check.proofs.Walk.{Stays, Turns, stays_is_course, turns_is_course}
use Rattle.pt_plan.proofs.Needing.{Each, each_put, each_first}
use Rattle.pt_plan.proofs.Walks.{Goes}
use Rattle.pt_cases.specs.Cases.{Common, Copies}
use Rattle.pt_plan.specs.Commits.{Lands}
use Rattle.pt_sector.specs.inner.ForFields.{length-written}
use Rattle.pt_mbr.specs.Records.{IsProtective}
use Rattle.pt_mbr.proofs.Terms.{protective_is_borne}
use Rattle.pt_gpt.specs.Copies.{array_len, CopyWith, SideReads, HasRoom, array_sector}
use Rattle.pt_gpt.specs.declared.table.Table.{Table}
use Rattle.pt_gpt.specs.declared.table.Side.{Side}
use Rattle.pt_gpt.specs.declared.table.Side.TheVariants.{Primary, Backup}
use Rattle.pt_members.specs.Members.{places_of, IsPlace}
use Rattle.pt_members.specs.declared.layout.Body.TheVariants.{Gpt}
use Rattle.pt_cases.specs.Writes.{header_of, one_write, Protects, array_phase, backup_phase, IsProtectedFrom, ComesToHold, LabelsMet}
use Rattle.pt_cases.proofs.Frames.{LabelsRight, misses, there_one, one_is, side_stands, labels_right, denotes_gpt, put_there}
use Rattle.pt_cases.proofs.Within.{side_within}
use Rattle.pt_members.specs.declared.layout.Body.{Body}
use Rattle.pt_cases.proofs.FewLemmas.{array_length, backup_length}
use Rattle.pt_cases.specs.Keeps.{copies_bound}
use Rattle.pt_cases.proofs.Stands.{place_usable}
use Rattle.pt_cases.proofs.Sides.{puts_array, puts_backup, array_there, backup_header, backup_array, side_written}
use Rattle.pt_cases.proofs.MetLemmas.{labels_set_met}

-- ## How a plan lands: that it is accepted, with which switch, and in what it ends.

-- a walk that turns to the same layout stays
pub stays_of : {L : Type 0} (denotes : Sectors → Option L → Type 0) (reads : Sectors → ℕ → Type 0) (k : ℕ) (ps : List Writes) (d : Sectors)
    (o n : Option L)
    → o ≡ n → Turns denotes reads k ps d o n → Stays denotes reads ps d o
stays_of denotes reads k [] d o n same is = absurd is
stays_of denotes reads zero (p ∷ ps) d o n same is =
    (is.0, is.1, subst (λ (x : Option _). Stays denotes reads ps (written p d) x) (sym same) is.2)
stays_of denotes reads (suc k) (p ∷ ps) d o n same is = (is.0, is.1, stays_of denotes reads k ps (written p d) o n same is.2)

-- what is asked of a single write
pub record IsGood (b : ℕ) (d : Sectors) (p : Layout) (s : ℕ) (v : List ℕ) : Type 0 where
  pub inside : s < length d
  pub boot : s ≡ 0 → take 440 v ≡ take 440 (sector d 0)
  pub table : IsTable b p s

pub none_is : (P : ℕ × List ℕ → Type 0) (ws : Writes) → ((s : ℕ) (v : List ℕ) → Puts ws s v → ¬ P (s, v)) → NoneIs P ws
none_is P ws never k w at = never w.0 w.1 (got_puts ws k w at)

module _ (b : ℕ) (d : Sectors) (o : Option Layout) (p : Layout) (phases : List Writes) (turn : ℕ) (from : Denotes b d o)
    (sound : Sound b p) (same_or : (o ≡ Some p) ⊎ ¬ (o ≡ Some p))
    (free : (s : ℕ) (v : List ℕ) → Puts (writes_in phases) s v → ¬ OwnedOf b o s) (few : length (writes_in phases) ≤ most_writes)
    (good : Each (IsGood b d p) phases)
    (walk : Goes (Denotes b) (Reads b) turn phases d o (Some p)) (ends : IsHealthy b (after phases d) p) where
  each : (s : ℕ) (v : List ℕ) → Puts (writes_in phases) s v → IsGood b d p s v
  each = each_put (IsGood b d p) phases good

  fit : IsFit d phases
  fit = record {
    few = few;
    inside = none_is (IsPastLast d) (writes_in phases) (λ s v puts outside. outside (each s v puts).inside);
    boot = none_is (ChangesBoot d) (writes_in phases) (λ s v puts changes. changes.1 ((each s v puts).boot changes.0));
  }

  placed : NoneIs (InNoTable b o (Some p)) (writes_in phases)
  placed = none_is (InNoTable b o (Some p)) (writes_in phases) (λ s v puts stray. stray.1 (each s v puts).table)

  unowned : NoneIs (InOwned b o (Some p)) (writes_in phases)
  unowned = none_is (InOwned b o (Some p)) (writes_in phases) (λ s v puts owned. ⊎_elim
      (λ old. free s v puts old)
      (λ new. sound_frees_tables_lem b p s sound new (each s v puts).table)
      owned)

  stayed : o ≡ Some p → Stays (Denotes b) (Reads b) phases d o → Lands b d o p phases turn
  stayed same stays = record {
    switch = 0;
    told = inl (same, refl);
    answers = accepted_lem b d phases o (Some p) None fit (record { from = from; to = ends.denotes })
        (stays_is_course (Denotes b) (Reads b) phases d o (Some p) stays) placed unowned (p, ends);
    ends = ends;
  }

  turned : (k : ℕ) → Turns (Denotes b) (Reads b) k phases d o (Some p) → (o ≡ Some p) ⊎ ¬ (o ≡ Some p) → Lands b d o p phases (k + 1)
  turned k turns (inl same) = record {
    switch = 0;
    told = inl (same, refl);
    answers = accepted_lem b d phases o (Some p) None fit (record { from = from; to = ends.denotes })
        (stays_is_course (Denotes b) (Reads b) phases d o (Some p)
        (stays_of (Denotes b) (Reads b) k phases d o (Some p) same turns)) placed unowned (p, ends);
    ends = ends;
  }
  turned k turns (inr differ) = record {
    switch = k + 1;
    told = inr (differ, refl);
    answers = accepted_lem b d phases o (Some p) (Some (k + 1)) fit (record { from = from; to = ends.denotes })
        (turns_is_course (Denotes b) (Reads b) k phases d o (Some p) differ turns) placed unowned (p, ends);
    ends = ends;
  }

  -- a plan that walks well is accepted
  pub lands : Lands b d o p phases turn
  lands = by_walk walk
    where
      by_walk : Goes (Denotes b) (Reads b) turn phases d o (Some p) → Lands b d o p phases turn
      by_walk (inl (k, is, turns)) = subst (λ (j : ℕ). Lands b d o p phases j) is (turned k turns same_or)
      by_walk (inr (same, stays)) =
          stayed same (subst (λ (x : Option Layout). Stays (Denotes b) (Reads b) phases d x) (sym same) stays)

-- so a plan of these phases lands
pub landed : (b : ℕ) (d : Sectors) (o : Option Layout) (p : Layout) (phases planned : List Writes) (turn : ℕ) → Common b d o p phases
    → phases ≡ planned → length (writes_in planned) ≤ most_writes → Each (IsGood b d p) planned
    → Turns (Denotes b) (Reads b) turn planned d o (Some p) → IsHealthy b (after planned d) p → Lands b d o p phases (turn + 1)
landed b d o p phases planned turn common is few good walk ends = subst (λ (ps : List Writes). Lands b d o p ps (turn + 1)) (sym is)
    (lands b d o p planned (turn + 1) common.from common.sound common.stays free few good (inl (turn, refl, walk)) ends)
  where
    free : (s : ℕ) (v : List ℕ) → Puts (writes_in planned) s v → ¬ OwnedOf b o s
    free s v puts = common.free s v (subst (λ (ps : List Writes). Puts (writes_in ps) s v) (sym is) puts)

-- and of other phases, of writes of sectors that the plan writes too
pub landed_fine : (b : ℕ) (d : Sectors) (o : Option Layout) (p : Layout) (full phases : List Writes) (turn : ℕ) → Common b d o p full
    → length (writes_in phases) ≤ most_writes → Each (λ s v. IsGood b d p s v × ¬ OwnedOf b o s) phases
    → Goes (Denotes b) (Reads b) turn phases d o (Some p) → IsHealthy b (after phases d) p → Lands b d o p phases turn
landed_fine b d o p full phases turn common few fine walk ends =
    lands b d o p phases turn common.from common.sound common.stays
    (λ s v puts. (each_put (λ s v. IsGood b d p s v × ¬ OwnedOf b o s) phases fine s v puts).1) few
    (each_first (IsGood b d p) (λ s v. ¬ OwnedOf b o s) phases fine) walk ends

-- ## A disk with both copies of a table, right labels and a protective record is healthy.

-- c has both copies of t as the planner writes them on n sectors, and the labels of p
pub record HasBoth (b n : ℕ) (c : Sectors) (p : Layout) (t : Table) : Type 0 where
  pub first : CopyWith b c Primary (header_of b n t Primary) t
  pub second : CopyWith b c Backup (header_of b n t Backup) t
  pub labels : LabelsRight b c p

module _ (b n : ℕ) (p : Layout) (t : Table) (size : IsSectorSize b) (body : p.body ≡ Gpt t) (sectors : p.sectors ≡ n) (room : HasRoom b n)
    (sound : Sound b p)
    (above : (s : ℕ) → IsPlace (places_of b p.sectors p.body) s → array_len b + 2 ≤ s) where
  pub gpt_healthy : (c : Sectors) → length c ≡ n → HasBoth b n c p t → IsProtective n (sector c 0) → IsHealthy b c p
  gpt_healthy c count both protective =
      let isnt : ¬ IsMbrDisk c = λ disk. disk.1.plain (protective_is_borne n (sector c 0) protective) in
      let here : HasRoom b (length c) = omega (arith, count, room) in
      record {
        denotes = denotes_gpt b c p t body (sectors ∙ sym count) isnt here
            (inl (record { room = here; head = header_of b n t Primary; stands = both.first })) both.labels;
        sound = sound;
        whole = subst (IsBodyWhole b c) (sym body) (let gpt : IsWhole b c t = record {
          primary = header_of b n t Primary;
          backup = header_of b n t Backup;
          copies = record { first = both.first; second = both.second };
          alternates = subst (λ (m : ℕ). NameEachOther m (header_of b n t Primary) (header_of b n t Backup)) (sym count)
              (record { first = refl; second = refl });
          protective = subst (λ (m : ℕ). IsProtective m (sector c 0)) (sym count) protective;
        } in gpt);
        no_foreign = both.labels.1;
      }

  -- no side is decided in sector 0
  side_above : (c : Sectors) (side : Side) (s : ℕ) → length c ≡ n → SideReads b c side s → 0 < s
  side_above c Primary s count reads = ⊎_elim (λ h. omega (arith, h)) (λ a. omega (arith, a.0)) (side_within b c Primary s size reads)
  side_above c Backup s count reads =
      ⊎_elim (λ h. omega (arith, h, count, room)) (λ a. omega (arith, a.0, count, room)) (side_within b c Backup s size reads)

  -- with the protective record written
  pub head_written : (c : Sectors) (v : List ℕ) → length c ≡ n → HasBoth b n c p t → IsProtective n v
      → IsHealthy b (written (one_write 0 v) c) p
  head_written c v count both protective =
      let now : sector (written (one_write 0 v) c) 0 ≡ v = there_one c 0 v (omega (arith, count, room)) in
      gpt_healthy (written (one_write 0 v) c) (length-written (one_write 0 v) c ∙ count)
      (record {
        first = side_stands b c (one_write 0 v) Primary (header_of b n t Primary) t
            (λ s x puts reads. (let at = one_is 0 s v x puts in let up = side_above c Primary s count reads in
            omega (arith, at, up))) both.first;
        second = side_stands b c (one_write 0 v) Backup (header_of b n t Backup) t
            (λ s x puts reads. (let at = one_is 0 s v x puts in let up = side_above c Backup s count reads in
            omega (arith, at, up))) both.second;
        labels = labels_right b c p (one_write 0 v)
            (λ s x puts at. (let one = one_is 0 s v x puts in let up = above s at in omega (arith, one, up))) both.labels;
      })
      (subst (IsProtective n) (sym now) protective)

  -- with the last phase written, if there is one
  pub last_written : (c : Sectors) (old : List ℕ) (last : List Writes) → length c ≡ n → HasBoth b n c p t → sector c 0 ≡ old
      → Protects n old last → IsHealthy b (after last c) p
  last_written c old last count both same (inl (protective, none)) =
      subst (λ (ps : List Writes). IsHealthy b (after ps c) p) (sym none)
      (gpt_healthy c count both (subst (IsProtective n) (sym same) protective))
  last_written c old last count both same (inr (not_yet, (new, from, one))) =
      subst (λ (ps : List Writes). IsHealthy b (after ps c) p) (sym one) (head_written c new count both from.protective)

  -- and the layout stays throughout
  pub last_stays : (c : Sectors) (old : List ℕ) (last : List Writes) → length c ≡ n → HasBoth b n c p t → Denotes b c (Some p)
      → Protects n old last → Stays (Denotes b) (Reads b) last c (Some p)
  last_stays c old last count both denotes (inl (protective, none)) =
      subst (λ (ps : List Writes). Stays (Denotes b) (Reads b) ps c (Some p)) (sym none) denotes
  last_stays c old last count both denotes (inr (not_yet, (new, from, one))) =
      subst (λ (ps : List Writes). Stays (Denotes b) (Reads b) ps c (Some p)) (sym one)
      (denotes, inl (omega arith), (head_written c new count both from.protective).denotes)

-- the last phase is of sector 0
pub last_misses : (n : ℕ) (old : List ℕ) (last : List Writes) (c : Sectors) (s : ℕ) → 0 < s → Protects n old last
    → sector (after last c) s ≡ sector c s
last_misses n old last c s some (inl (already, none)) = ap (λ (ps : List Writes). sector (after ps c) s) none
last_misses n old last c s some (inr (not_yet, (new, from, one))) =
    ap (λ (ps : List Writes). sector (after ps c) s) one
    ∙ misses c (one_write 0 new) s (λ x puts. (let at = one_is 0 s new x puts in omega (arith, at, some)))

-- ## What the parts of a plan that writes both copies write, and where.

pub array_small : (b : ℕ) → IsSectorSize b → array_len b ≤ 32
array_small b (inl e) = rw e (omega arith)
array_small b (inr e) = rw e (omega arith)

module _ (b : ℕ) (d : Sectors) (o : Option Layout) (p : Layout) (t : Table) (size : IsSectorSize b) (sound : Sound b p)
    (sectors : p.sectors ≡ length d) (copies : Copies b d o p t) where
  pub room : HasRoom b (length d)
  room = copies.fits.room

  -- label places lie between the copies
  pub middle : (s : ℕ) → IsPlace (places_of b p.sectors p.body) s → (array_len b + 2 ≤ s) × (s < length d - (array_len b + 1))
  middle s at = place_usable b p t (length d) s sectors sound copies.body copies.fits at

  -- and labels are written in them alone
  pub label_place : (s : ℕ) (v : List ℕ) → Puts copies.labels s v → IsPlace (places_of b p.sectors p.body) s
  label_place = copies.writes.each

  pub label_middle : (s : ℕ) (v : List ℕ) → Puts copies.labels s v → (array_len b + 2 ≤ s) × (s < length d - (array_len b + 1))
  label_middle s v puts = middle s (label_place s v puts)

  pub backup_high : (s : ℕ) (v : List ℕ) → Puts (backup_phase b (length d) t copies.backup) s v
      → (length d - (array_len b + 1) ≤ s) × (s < length d)
  backup_high s v puts = puts_backup b (length d) t copies.backup s v room puts

  pub primary_low : (s : ℕ) (v : List ℕ) → Puts (array_phase b (length d) t Primary) s v → (2 ≤ s) × (s < array_len b + 2)
  primary_low s v puts = let is = puts_array b t.entries 2 (array_len b) s v puts in (is.low, omega (arith, is.high))

  -- each of these writes is good
  of_body : (s : ℕ) → IsGptTable b (length d) s → IsTable b p s
  of_body s is =
      inl (subst (λ (y : Body). IsBodyTable b p.sectors y s) (sym copies.body) (subst (λ (m : ℕ). IsGptTable b m s) (sym sectors) is))

  pub low_good : (s : ℕ) (v : List ℕ) → 0 < s → s < array_len b + 2 → IsGood b d p s v
  low_good s v some lt =
      record { inside = omega (arith, lt, room); boot = λ zero_is. absurd (omega (arith, some, zero_is)); table = of_body s (inl lt) }

  pub high_good : (s : ℕ) (v : List ℕ) → length d - (array_len b + 1) ≤ s → s < length d → IsGood b d p s v
  high_good s v ge lt =
      record {
        inside = lt;
        boot = λ zero_is. absurd (omega (arith, ge, zero_is, room));
        table = of_body s (inr (omega (arith, ge, room), lt));
      }

  pub label_good : (s : ℕ) (v : List ℕ) → Puts copies.labels s v → IsGood b d p s v
  label_good s v puts =
      let m = label_middle s v puts in
      record {
        inside = omega (arith, m.1, room);
        boot = λ zero_is. absurd (omega (arith, m.0, zero_is));
        table = inr (label_place s v puts);
      }

  pub one_good : (v : List ℕ) (s : ℕ) (x : List ℕ) → Puts (one_write 1 v) s x → IsGood b d p s x
  one_good v s x puts = let at = one_is 1 s v x puts in low_good s x (omega (arith, at)) (omega (arith, at))

  pub array_good : (s : ℕ) (v : List ℕ) → Puts (array_phase b (length d) t Primary) s v → IsGood b d p s v
  array_good s v puts = let at = primary_low s v puts in low_good s v (omega (arith, at.0)) at.1

  pub backup_good : (s : ℕ) (v : List ℕ) → Puts (backup_phase b (length d) t copies.backup) s v → IsGood b d p s v
  backup_good s v puts = let at = backup_high s v puts in high_good s v at.0 at.1

  head_one : (v : List ℕ) (s : ℕ) (x : List ℕ) → IsProtectedFrom (length d) (sector d 0) v → Puts (one_write 0 v) s x → IsGood b d p s x
  head_one v s x from puts = ⊎_elim
      (λ put. record {
        inside = omega (arith, put.0, room);
        boot = λ zero_is. ap (take 440) (sym put.1) ∙ from.boot;
        table = of_body s (inl (omega (arith, put.0)));
      })
      (λ nothing. absurd nothing)
      puts

  pub head_good : (v : List ℕ) → IsProtectedFrom (length d) (sector d 0) v → Each (IsGood b d p) (one_write 0 v ∷ [])
  head_good v from = (λ s x puts. head_one v s x from puts, tt)

  pub last_good : (last : List Writes) → Protects (length d) (sector d 0) last → Each (IsGood b d p) last
  last_good last (inl (already, none)) = subst (Each (IsGood b d p)) (sym none) tt
  last_good last (inr (not_yet, (new, from, one))) = subst (Each (IsGood b d p)) (sym one) (head_good new from)

  -- how many there are
  pub few_enough : (writes : ℕ) → writes ≤ copies_bound b (length copies.labels) → writes ≤ most_writes
  few_enough writes count = let small = array_small b size in omega (arith, small, count, copies.writes.few)

  pub array_few : length (array_phase b (length d) t Primary) ≡ array_len b
  array_few = array_length b (length d) t copies.backup

  pub backup_few : length (backup_phase b (length d) t copies.backup) ≡ array_len b + 1
  backup_few = backup_length b (length d) t copies.backup

  -- the backup copy, and then it's there
  pub backup_there : (e : Sectors) → length e ≡ length d
      → CopyWith b (written (backup_phase b (length d) t copies.backup) e) Backup (header_of b (length d) t Backup) t
  backup_there e count =
      side_written b (length d) (written (backup_phase b (length d) t copies.backup) e) Backup t copies.backup size
      (length-written (backup_phase b (length d) t copies.backup) e ∙ count)
      copies.fits copies.fit copies.is_backup.header (backup_header b (length d) t copies.backup e count room)
      (backup_array b (length d) t copies.backup e count room)

  -- the primary copy: the array and then the header
  pub primary_there : (c : Sectors) → length c ≡ length d → sector c 1 ≡ copies.primary
      → ((k : ℕ) → k < array_len b → sector c (2 + k) ≡ array_sector b t.entries k)
      → CopyWith b c Primary (header_of b (length d) t Primary) t
  primary_there c count header array =
      side_written b (length d) c Primary t copies.primary size count copies.fits copies.fit copies.is_primary.header header array

  pub array_filled : (e : Sectors) (k : ℕ) → length e ≡ length d → k < array_len b
      → sector (written (array_phase b (length d) t Primary) e) (2 + k) ≡ array_sector b t.entries k
  array_filled e k count lt = array_there b t.entries 2 (array_len b) k e lt (omega (arith, count, room))

  pub labels_met : LabelsMet b d o p copies.labels
  labels_met = labels_set_met b d o p copies.labels copies.writes

  -- label places hold what they are to end as, once the labels are written over what the disk holds there
  pub labels_end : (e : Sectors) (s : ℕ) (v : List ℕ) → length e ≡ length d → sector e s ≡ sector d s
      → IsPlace (places_of b p.sectors p.body) s → ComesToHold d copies.labels s v → sector (written copies.labels e) s ≡ v
  labels_end e s v count same at (inl puts) =
      let m = middle s at in put_there copies.labels e s v copies.writes.ascending (omega (arith, m.1, room, count)) puts
  labels_end e s v count same at (inr (is, never)) = misses e copies.labels s never ∙ same ∙ sym is
