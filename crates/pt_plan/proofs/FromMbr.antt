-- A plan that writes all of a GPT, and then sector 0 of an MBR disk, lands.
use Rattle.std.proofs.Common.{◌≡◌, ◌∙◌, inl, inr, ⊎_elim, ℕ, ◌+◌, ◌-◌, ◌<◌, ◌≤◌, List, ◌++◌, length, sym, ap, subst, arith, Option, Some}
use Rattle.pt_sector.specs.Sectors.{Sectors, sector, IsSectorSize, Writes, Puts, written, after}
use Rattle.pt_sector.proofs.Written.{stopped_written, written-append}
use Rattle.pt_sector.specs.inner.ForFields.{length-written}
use Rattle.pt_gpt.specs.Copies.{array_len, CopyWith, HasRoom}
use Rattle.pt_gpt.specs.declared.table.Table.{Table}
use Rattle.pt_gpt.specs.declared.table.Side.TheVariants.{Primary, Backup}
use Rattle.pt_recover.specs.Denotes.{Denotes, Reads}
use Rattle.pt_members.specs.Members.{places_of, IsPlace}
use Rattle.pt_recover.proofs.Terms.{stop_keeps_lem}
use Rattle.pt_members.specs.declared.layout.Layout.{Layout}
use Rattle.pt_layout.specs.Healthy.{IsHealthy}
use Rattle.pt_check.proofs.Walk.{Turns}
use Rattle.pt_layout.proofs.Guarded.{reads_guarded}
use Rattle.pt_cases.specs.Cases.{IsFromMbr, copies_and_labels, from_mbr_phases}
use Rattle.pt_cases.specs.Writes.{header_of, array_phase, one_write, backup_phase, ComesToHold}
use Rattle.pt_plan.proofs.Needing.{Each}
use Rattle.pt_plan.proofs.Landings.{HasBoth, head_written, IsGood, landed, few_enough, middle, label_middle, backup_high}
use Rattle.pt_plan.proofs.Landings.{primary_low, label_good, one_good, array_good, backup_good, head_good, backup_there, primary_there}
use Rattle.pt_plan.proofs.Landings.{array_filled, labels_met, labels_end}
use Rattle.pt_apply.proofs.Puts.{puts_split}
use Rattle.pt_cases.proofs.FewLemmas.{from_mbr_count}
use Rattle.pt_cases.proofs.Frames.{LabelsRight, misses, there_one, one_is}
use Rattle.pt_plan.specs.Commits.{Lands}
use Rattle.pt_cases.proofs.MetLemmas.{labels_met_right}

module _ (b : ℕ) (d : Sectors) (o : Option Layout) (p : Layout) (t : Table) (phases : List Writes) (size : IsSectorSize b)
    (is : IsFromMbr b d o p t phases) where
  abbrev n : ℕ
  n = length d

  abbrev backup_writes : Writes
  backup_writes = backup_phase b n t is.copies.backup

  abbrev primary_array : Writes
  primary_array = array_phase b n t Primary

  abbrev new_labels : Writes
  new_labels = is.copies.labels

  abbrev primary_header : Writes
  primary_header = one_write 1 is.copies.primary

  abbrev p1 : Writes
  p1 = copies_and_labels b n t is.copies.primary is.copies.backup is.copies.labels

  abbrev planned : List Writes
  planned = from_mbr_phases b n t is.copies.primary is.copies.backup is.copies.labels is.head

  abbrev d1 : Sectors
  d1 = written p1 d

  abbrev e1 : Sectors
  e1 = written primary_header d

  abbrev e2 : Sectors
  e2 = written primary_array e1

  abbrev e3 : Sectors
  e3 = written new_labels e2

  n1 : length d1 ≡ n
  n1 = length-written p1 d

  m1 : length e1 ≡ n
  m1 = length-written primary_header d

  m2 : length e2 ≡ n
  m2 = length-written primary_array e1 ∙ m1

  m3 : length e3 ≡ n
  m3 = length-written new_labels e2 ∙ m2

  room : HasRoom b n
  room = is.copies.fits.room

  place_mid : (s : ℕ) → IsPlace (places_of b p.sectors p.body) s → (array_len b + 2 ≤ s) × (s < n - (array_len b + 1))
  place_mid = middle b d o p t size is.common.sound is.common.sectors is.copies

  low : (s : ℕ) (x : List ℕ) → Puts primary_array s x → (2 ≤ s) × (s < array_len b + 2)
  low = primary_low b d o p t size is.common.sound is.common.sectors is.copies

  label_mid : (s : ℕ) (x : List ℕ) → Puts new_labels s x → (array_len b + 2 ≤ s) × (s < n - (array_len b + 1))
  label_mid = label_middle b d o p t size is.common.sound is.common.sectors is.copies

  high : (s : ℕ) (x : List ℕ) → Puts backup_writes s x → (n - (array_len b + 1) ≤ s) × (s < n)
  high = backup_high b d o p t size is.common.sound is.common.sectors is.copies

  leaves : (s : ℕ) (x : List ℕ) → Puts p1 s x → ¬ Reads b d s
  leaves s x puts reads = is.unguarded s x puts (reads_guarded b d s is.mbr reads)

  d1_is : d1 ≡ written backup_writes e3
  d1_is = written-append primary_array (new_labels ++ backup_writes) e1 ∙ written-append new_labels backup_writes e2

  low_there : (s : ℕ) → s < array_len b + 2 → sector d1 s ≡ sector e2 s
  low_there s lt =
      ap (λ (c : Sectors). sector c s) d1_is
      ∙ misses e3 backup_writes s (λ x puts. (let up = high s x puts in omega (arith, up.0, lt, room)))
      ∙ misses e2 new_labels s (λ x puts. (let up = label_mid s x puts in omega (arith, up.0, lt)))

  first1 : CopyWith b d1 Primary (header_of b n t Primary) t
  first1 = primary_there b d o p t size is.common.sound is.common.sectors is.copies d1 n1
      (low_there 1 (omega arith) ∙ misses e1 primary_array 1 (λ x puts. (let up = low 1 x puts in omega (arith, up.0)))
      ∙ there_one d 1 is.copies.primary (omega (arith, room)))
      (λ k lt. low_there (2 + k) (omega (arith, lt)) ∙ array_filled b d o p t size is.common.sound is.common.sectors is.copies e1 k m1 lt)

  second1 : CopyWith b d1 Backup (header_of b n t Backup) t
  second1 =
      subst (λ (c : Sectors). CopyWith b c Backup (header_of b n t Backup) t) (sym d1_is)
      (backup_there b d o p t size is.common.sound is.common.sectors is.copies e3 m3)

  ended1 : (s : ℕ) (v : List ℕ) → IsPlace (places_of b p.sectors p.body) s → ComesToHold d new_labels s v → sector d1 s ≡ v
  ended1 s v at ends =
      ap (λ (c : Sectors). sector c s) d1_is
      ∙ misses e3 backup_writes s (λ x puts. (let up = high s x puts in let m = place_mid s at in omega (arith, up.0, m.1)))
      ∙ labels_end b d o p t size is.common.sound is.common.sectors is.copies e2 s v m2
      (misses e1 primary_array s (λ x puts. (let up = low s x puts in let m = place_mid s at in omega (arith, up.1, m.0)))
      ∙ misses d primary_header s
      (λ x puts. (let up = one_is 1 s is.copies.primary x puts in let m = place_mid s at in omega (arith, up, m.0))))
      at ends

  labels1 : LabelsRight b d1 p
  labels1 = labels_met_right b d o p new_labels d1 (labels_met b d o p t size is.common.sound is.common.sectors is.copies) ended1

  both1 : HasBoth b n d1 p t
  both1 = record { first = first1; second = second1; labels = labels1 }

  old1 : Denotes b d1 o
  old1 = ((stop_keeps_lem b d d1 p1 leaves (stopped_written p1 d)).denotes o).1 is.common.from

  above : (s : ℕ) → IsPlace (places_of b p.sectors p.body) s → array_len b + 2 ≤ s
  above s at = (place_mid s at).0

  ends : IsHealthy b (after planned d) p
  ends = head_written b n p t size is.copies.body is.common.sectors room is.common.sound above d1 is.head n1 both1 is.protected.protective

  walk : Turns (Denotes b) (Reads b) 1 planned d o (Some p)
  walk = (is.common.from, inr leaves, (old1, inl (omega arith), ends.denotes))

  good_one : (s : ℕ) (x : List ℕ) → Puts p1 s x → IsGood b d p s x
  good_one s x puts = ⊎_elim
      (λ header. one_good b d o p t size is.common.sound is.common.sectors is.copies is.copies.primary s x header)
      (λ more. ⊎_elim
      (λ array. array_good b d o p t size is.common.sound is.common.sectors is.copies s x array)
      (λ rest. ⊎_elim
      (λ label. label_good b d o p t size is.common.sound is.common.sectors is.copies s x label)
      (λ back. backup_good b d o p t size is.common.sound is.common.sectors is.copies s x back)
      (puts_split new_labels backup_writes s x rest))
      (puts_split primary_array (new_labels ++ backup_writes) s x more))
      (puts_split primary_header (primary_array ++ (new_labels ++ backup_writes)) s x puts)

  good : Each (IsGood b d p) planned
  good = (good_one, head_good b d o p t size is.common.sound is.common.sectors is.copies is.head is.protected)

  pub from_mbr_lands : Lands b d o p phases 2
  from_mbr_lands = landed b d o p phases planned 1 is.common is.is
      (few_enough b d o p t size is.common.sound is.common.sectors is.copies _ (from_mbr_count b d o p t phases is)) good walk ends

  -- each label place ends as it is to
  pub from_mbr_ended : (s : ℕ) (v : List ℕ) → IsPlace (places_of b p.sectors p.body) s → ComesToHold d is.copies.labels s v
      → sector (after phases d) s ≡ v
  from_mbr_ended s v at ends =
      let m = place_mid s at in
      ap (λ (ps : List Writes). sector (after ps d) s) is.is
      ∙ misses d1 (one_write 0 is.head) s (λ x puts. (let one = one_is 0 s is.head x puts in omega (arith, one, m.0)))
      ∙ ended1 s v at ends
