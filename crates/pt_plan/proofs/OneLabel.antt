-- A plan that writes one label of a whole GPT lands.
use Rattle.std.proofs.Common.{◌≡◌, ◌∙◌, inl, inr, ⊎_elim, ℕ, ◌+◌, ◌-◌, ◌<◌, ◌≤◌, List, [], ◌∷◌, length, sym, ap, subst, arith, Option}
use Rattle.std.proofs.Common.{Some}
use Rattle.pt_sector.specs.Sectors.{Sectors, sector, IsSectorSize, Writes, Puts, written, after}
use Rattle.pt_sector.specs.inner.ForFields.{length-written}
use Rattle.pt_mbr.specs.Records.{IsProtective}
use Rattle.pt_mbr.proofs.Terms.{protective_is_borne}
use Rattle.pt_gpt.specs.Copies.{array_len, Copy, CopyWith, HasRoom}
use Rattle.pt_gpt.specs.declared.table.Table.{Table}
use Rattle.pt_gpt.specs.declared.table.Side.TheVariants.{Primary, Backup}
use Rattle.pt_recover.specs.Denotes.{Denotes, Reads, BodyIs, IsMbrDisk, LabelsAre}
use Rattle.pt_members.specs.Members.{places_of, IsPlace}
use Rattle.pt_recover.proofs.Terms.{denotes_one_lem}
use Rattle.pt_members.specs.declared.layout.Body.TheVariants.{Gpt}
use Rattle.pt_members.specs.declared.layout.Layout.{Layout}
use Rattle.pt_layout.specs.Healthy.{NameEachOther, IsWhole, IsBodyWhole, IsHealthy}
use Rattle.pt_check.proofs.Walk.{Turns}
use Rattle.pt_cases.specs.Cases.{IsOneLabel, ChangesLabels}
use Rattle.pt_cases.specs.Writes.{one_write, LabelsMet, ComesToHold}
use Rattle.pt_cases.proofs.Frames.{LabelsRight, misses, one_is, one_end, side_stands, denotes_gpt}
use Rattle.pt_plan.specs.Commits.{Lands}
use Rattle.pt_plan.proofs.Landings.{IsGood, landed}
use Rattle.pt_plan.proofs.Needing.{Each}
use Rattle.pt_cases.proofs.MetLemmas.{labels_met_right}
use Rattle.pt_cases.proofs.Denoted.{table_fits}
use Rattle.pt_cases.proofs.Stands.{place_usable}
use Rattle.pt_cases.proofs.Within.{side_within}

-- a change of labels alone writes one
pub some_label_changes : (b : ℕ) (d : Sectors) (o : Option Layout) (p : Layout) → Denotes b d o → p.sectors ≡ length d
    → ChangesLabels o p → ¬ LabelsMet b d o p []
some_label_changes b d o p from sectors changes met =
    let from_old : Denotes b d (Some changes.old) = subst (Denotes b d) changes.is_old from in
    let right : LabelsRight b d p =
    labels_met_right b d o p [] d met (λ s v at ends. ⊎_elim (λ puts. absurd puts) (λ kept. sym kept.0) ends) in
    let here : Denotes b d (Some p) = (
      sectors,
      subst (BodyIs b d) changes.same from_old.1,
      subst (λ (m : ℕ). LabelsAre d (places_of b m p.body) p.labels) sectors right.0,
    ) in
    let same : Some changes.old ≡ Some p = denotes_one_lem b d (Some changes.old) (Some p) from_old here in
    let layouts : changes.old ≡ p = cc in
    changes.differ (ap (λ (l : Layout). l.labels) layouts)

module _ (b : ℕ) (d : Sectors) (o : Option Layout) (p : Layout) (t : Table) (phases : List Writes) (size : IsSectorSize b)
    (is : IsOneLabel b d o p t phases) where
  abbrev n : ℕ
  n = length d

  abbrev ws : Writes
  ws = one_write is.loud.0 is.loud.1

  abbrev c : Sectors
  c = written ws d

  count : length c ≡ n
  count = length-written ws d

  body_is : BodyIs b d (Gpt t)
  body_is = subst (BodyIs b d) (is.same ∙ is.body) (subst (Denotes b d) is.is_old is.common.from).1

  room : HasRoom b n
  room = body_is.1

  whole : IsWhole b d t
  whole = subst (IsBodyWhole b d) (is.same ∙ is.body) is.whole

  mid : (s : ℕ) → IsPlace (places_of b p.sectors p.body) s → (array_len b + 2 ≤ s) × (s < n - (array_len b + 1))
  mid s at = place_usable b p t n s is.common.sectors is.common.sound is.body (table_fits b d t body_is.2) at

  put_mid : (s : ℕ) (x : List ℕ) → Puts ws s x → (array_len b + 2 ≤ s) × (s < n - (array_len b + 1))
  put_mid s x puts =
      let at = one_is is.loud.0 s is.loud.1 x puts in let m = mid is.loud.0 is.place in (omega (arith, at, m.0), omega (arith, at, m.1))

  first : CopyWith b c Primary whole.primary t
  first =
      side_stands b d ws Primary whole.primary t
      (λ s x puts reads. (let m = put_mid s x puts in
      ⊎_elim (λ h. omega (arith, h, m.0)) (λ a. omega (arith, a.1, m.0)) (side_within b d Primary s size reads))) whole.copies.first

  second : CopyWith b c Backup whole.backup t
  second =
      side_stands b d ws Backup whole.backup t
      (λ s x puts reads. (let m = put_mid s x puts in
      ⊎_elim (λ h. omega (arith, h, m.1, room)) (λ a. omega (arith, a.0, m.1)) (side_within b d Backup s size reads))) whole.copies.second

  ended_here : (s : ℕ) (v : List ℕ) → IsPlace (places_of b p.sectors p.body) s → ComesToHold d ws s v → sector c s ≡ v
  ended_here s v at ends = ⊎_elim
      (λ puts. (let m = mid s at in one_end d is.loud.0 s is.loud.1 v (omega (arith, m.1, room)) puts))
      (λ kept. misses d ws s kept.1 ∙ sym kept.0)
      ends

  labels : LabelsRight b c p
  labels = labels_met_right b d o p ws c is.met ended_here

  protective : IsProtective n (sector c 0)
  protective = subst (IsProtective n) (sym (misses d ws 0 (λ x puts. (let m = put_mid 0 x puts in omega (arith, m.0))))) whole.protective

  isnt : ¬ IsMbrDisk c
  isnt disk = disk.1.plain (protective_is_borne n (sector c 0) protective)

  room_c : HasRoom b (length c)
  room_c = omega (arith, room, count)

  ends : IsHealthy b c p
  ends = record {
    denotes = denotes_gpt b c p t is.body (is.common.sectors ∙ sym count) isnt room_c
        (inl (record { room = room_c; head = whole.primary; stands = first })) labels;
    sound = is.common.sound;
    whole = subst (IsBodyWhole b c) (sym is.body) (let gpt : IsWhole b c t = record {
      primary = whole.primary;
      backup = whole.backup;
      copies = record { first = first; second = second };
      alternates = subst (λ (m : ℕ). NameEachOther m whole.primary whole.backup) (sym count) whole.alternates;
      protective = subst (λ (m : ℕ). IsProtective m (sector c 0)) (sym count) protective;
    } in gpt);
    no_foreign = labels.1;
  }

  walk : Turns (Denotes b) (Reads b) 0 (ws ∷ []) d o (Some p)
  walk = (is.common.from, inl (omega arith), ends.denotes)

  good : Each (IsGood b d p) (ws ∷ [])
  good = (
    λ s x puts.
        let m = put_mid s x puts in
        record {
          inside = omega (arith, m.1, room);
          boot = λ zero_is. absurd (omega (arith, m.0, zero_is));
          table = inr (subst (λ (j : ℕ). IsPlace (places_of b p.sectors p.body) j) (sym (one_is is.loud.0 s is.loud.1 x puts)) is.place);
        },
    tt,
  )

  -- the primary copy stands on the disk before and after
  pub one_label_copies : Copy b d Primary t × Copy b (written (one_write is.loud.0 is.loud.1) d) Primary t
  one_label_copies = (
    record { room = room; head = whole.primary; stands = whole.copies.first },
    record { room = room_c; head = whole.primary; stands = first },
  )

  -- and the write is of no sector of its table
  pub one_label_high : (s : ℕ) (x : List ℕ) → Puts (one_write is.loud.0 is.loud.1) s x → array_len b + 2 ≤ s
  one_label_high s x puts = (put_mid s x puts).0

  pub one_label_lands : Lands b d o p phases 1
  one_label_lands = landed b d o p phases (ws ∷ []) 0 is.common is.is (omega arith) good walk ends

  -- each label place ends as it is to
  pub one_label_ended : (s : ℕ) (v : List ℕ) → IsPlace (places_of b p.sectors p.body) s → ComesToHold d (one_write is.loud.0 is.loud.1) s v
      → sector (after phases d) s ≡ v
  one_label_ended s v at ends = ap (λ (ps : List Writes). sector (after ps d) s) is.is ∙ ended_here s v at ends
