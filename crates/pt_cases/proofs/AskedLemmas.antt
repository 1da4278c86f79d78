-- All that a plan of both copies is asked to write: both copies, sector 0 where it isn't protective, and the new labels.
use Rattle.std.proofs.Common.{◌≡◌, ◌⊎◌, inl, inr, ⊎_elim, ℕ, ◌+◌, ◌-◌, ◌<◌, ◌≤◌, List, [], ◌∷◌, ◌++◌, length, refl, sym, subst, arith}
use Rattle.std.proofs.lemmas.Bool.{cases_lt}
use Rattle.pt_sector.specs.Sectors.{Sectors, sector, Writes, Puts}
use Rattle.pt_mbr.specs.Records.{IsProtective}
use Rattle.pt_gpt.specs.Copies.{array_len}
use Rattle.pt_gpt.specs.declared.table.Side.TheVariants.{Primary, Backup}
use Rattle.pt_gpt.specs.declared.table.Table.{Table}
use Rattle.pt_recover.specs.Denotes.{IsMbrDisk}
use Rattle.pt_apply.specs.Plans.{writes_in}
use Rattle.pt_apply.proofs.Puts.{puts_left, puts_right}
use Rattle.pt_cases.specs.Writes.{FitsTable, IsOfCopy, array_phase, one_write, closing, backup_phase, Protects}
use Rattle.pt_cases.specs.Cases.{labels_and_backup, backup_first_phases, primary_and_labels, primary_first_phases, copies_and_labels}
use Rattle.pt_cases.specs.Cases.{from_mbr_phases}
use Rattle.pt_cases.proofs.Sides.{array_any}

-- sector 0 is written where it isn't protective, or is an MBR's
abbrev pub AsksHead : Sectors → Type 0
AsksHead d = (¬ IsProtective (length d) (sector d 0)) ⊎ IsMbrDisk d

-- what the phases are to write: both copies, sector 0 if so, and these labels
abbrev pub Asked : ℕ → Sectors → Writes → ℕ → Type 0
Asked b d labels s = IsOfCopy b (length d) s ⊎ (((s ≡ 0) × AsksHead d) ⊎ ((v : List ℕ) × Puts labels s v))

-- writes that have the parts of both copies, the labels and sector 0 have all that is asked
module _ (b : ℕ) (d : Sectors) (t : Table) (fits : FitsTable b (length d) t) (primary backup : List ℕ) (labels all : Writes)
    (one : Puts all 1 primary)
    (array : (s : ℕ) (v : List ℕ) → Puts (array_phase b (length d) t Primary) s v → Puts all s v)
    (last : (s : ℕ) (v : List ℕ) → Puts (backup_phase b (length d) t backup) s v → Puts all s v)
    (label : (s : ℕ) (v : List ℕ) → Puts labels s v → Puts all s v)
    (head : AsksHead d → (v : List ℕ) × Puts all 0 v) where
  abbrev n : ℕ
  n = length d

  low_put : (s : ℕ) → 0 < s → s < array_len b + 2 → (v : List ℕ) × Puts all s v
  low_put s some lt = ⊎_elim
      (λ first. (primary, subst (λ (j : ℕ). Puts all j primary) (omega (arith, some, first)) one))
      (λ later. let it = array_any b t.entries 2 (array_len b) s later (omega (arith, lt)) in (it.0, array s it.0 it.1))
      (cases_lt s 2)

  high_put : (s : ℕ) → n ≤ s + (array_len b + 1) → s < n → (v : List ℕ) × Puts all s v
  high_put s ge lt = ⊎_elim
      (λ below.
      let it = array_any b t.entries (n - (array_len b + 1)) (array_len b) s (omega (arith, ge)) (omega (arith, below, ge, fits.room)) in
      (it.0, last s it.0 (puts_left (array_phase b n t Backup) (one_write (n - 1) backup) s it.0 it.1)))
      (λ end. (
        backup,
        last s backup
            (puts_right (array_phase b n t Backup) (one_write (n - 1) backup) s backup (inl (omega (arith, end, lt), refl))),
      ))
      (cases_lt s (n - 1))

  asked_put : (s : ℕ) → Asked b d labels s → (v : List ℕ) × Puts all s v
  asked_put s (inl (some, inl low)) = low_put s some low
  asked_put s (inl (some, inr high)) = high_put s high.0 high.1
  asked_put s (inr (inl (zero_is, why))) = (let it = head why in (it.0, subst (λ (j : ℕ). Puts all j it.0) (sym zero_is) it.1))
  asked_put s (inr (inr (v, puts))) = (v, label s v puts)

-- the last phase, where it has to be
last_put : (d : Sectors) (last : List Writes) → ¬ IsMbrDisk d → Protects (length d) (sector d 0) last → AsksHead d
    → (v : List ℕ) × Puts (writes_in last) 0 v
last_put d last plain (inl (already, none)) why = absurd (⊎_elim (λ not_yet. not_yet already) (λ mbr. plain mbr) why)
last_put d last plain (inr (not_yet, (new, from, one))) why =
    (new, subst (λ (ps : List Writes). Puts (writes_in ps) 0 new) (sym one) (inl (refl, refl)))

here : (ws : Writes) (ps : List Writes) (s : ℕ) (v : List ℕ) → Puts ws s v → Puts (writes_in (ws ∷ ps)) s v
here ws ps s v puts = puts_left ws (writes_in ps) s v puts

later : (ws : Writes) (ps : List Writes) (s : ℕ) (v : List ℕ) → Puts (writes_in ps) s v → Puts (writes_in (ws ∷ ps)) s v
later ws ps s v puts = puts_right ws (writes_in ps) s v puts

-- the phases of each order write all that is asked
module _ (b : ℕ) (d : Sectors) (t : Table) (fits : FitsTable b (length d) t) (primary backup : List ℕ) (labels : Writes) where
  pub backup_first_puts : (last : List Writes) → ¬ IsMbrDisk d → Protects (length d) (sector d 0) last → (s : ℕ) → Asked b d labels s
      → (v : List ℕ) × Puts (writes_in (backup_first_phases b (length d) t primary backup labels last)) s v
  backup_first_puts last plain protects s asked =
      let n : ℕ = length d in
      let f : Writes = labels_and_backup b n t backup labels in
      let P : Writes = array_phase b n t Primary in
      let h : Writes = one_write 1 primary in
      asked_put b d t fits primary backup labels (writes_in (f ∷ closing b ∷ P ∷ h ∷ last))
      (later f (closing b ∷ P ∷ h ∷ last) 1 primary
      (later (closing b) (P ∷ h ∷ last) 1 primary (later P (h ∷ last) 1 primary (here h last 1 primary (inl (refl, refl))))))
      (λ j v puts. later f (closing b ∷ P ∷ h ∷ last) j v (later (closing b) (P ∷ h ∷ last) j v (here P (h ∷ last) j v puts)))
      (λ j v puts. here f (closing b ∷ P ∷ h ∷ last) j v (puts_right labels (backup_phase b n t backup) j v puts))
      (λ j v puts. here f (closing b ∷ P ∷ h ∷ last) j v (puts_left labels (backup_phase b n t backup) j v puts))
      (λ why. let it = last_put d last plain protects why in (
        it.0,
        later f (closing b ∷ P ∷ h ∷ last) 0 it.0
            (later (closing b) (P ∷ h ∷ last) 0 it.0 (later P (h ∷ last) 0 it.0 (later h last 0 it.0 it.1))),
      ))
      s asked

  pub primary_first_puts : (last : List Writes) → ¬ IsMbrDisk d → Protects (length d) (sector d 0) last → (s : ℕ) → Asked b d labels s
      → (v : List ℕ) × Puts (writes_in (primary_first_phases b (length d) t primary backup labels last)) s v
  primary_first_puts last plain protects s asked =
      let n : ℕ = length d in
      let f : Writes = primary_and_labels b n t labels in
      let P : Writes = array_phase b n t Primary in
      let H : Writes = backup_phase b n t backup in
      let h : Writes = one_write 1 primary in
      asked_put b d t fits primary backup labels (writes_in (closing b ∷ f ∷ h ∷ H ∷ last))
      (later (closing b) (f ∷ h ∷ H ∷ last) 1 primary (later f (h ∷ H ∷ last) 1 primary (here h (H ∷ last) 1 primary (inl (refl, refl)))))
      (λ j v puts. later (closing b) (f ∷ h ∷ H ∷ last) j v (here f (h ∷ H ∷ last) j v (puts_left P labels j v puts)))
      (λ j v puts. later (closing b) (f ∷ h ∷ H ∷ last) j v (later f (h ∷ H ∷ last) j v (later h (H ∷ last) j v (here H last j v puts))))
      (λ j v puts. later (closing b) (f ∷ h ∷ H ∷ last) j v (here f (h ∷ H ∷ last) j v (puts_right P labels j v puts)))
      (λ why. let it = last_put d last plain protects why in (
        it.0,
        later (closing b) (f ∷ h ∷ H ∷ last) 0 it.0
            (later f (h ∷ H ∷ last) 0 it.0 (later h (H ∷ last) 0 it.0 (later H last 0 it.0 it.1))),
      ))
      s asked

  pub from_mbr_puts : (new : List ℕ) (s : ℕ) → Asked b d labels s
      → (v : List ℕ) × Puts (writes_in (from_mbr_phases b (length d) t primary backup labels new)) s v
  from_mbr_puts new s asked =
      let n : ℕ = length d in
      let P : Writes = array_phase b n t Primary in
      let H : Writes = backup_phase b n t backup in
      let h : Writes = one_write 1 primary in
      let f : Writes = copies_and_labels b n t primary backup labels in
      let z : List Writes = one_write 0 new ∷ [] in
      asked_put b d t fits primary backup labels (writes_in (f ∷ z))
      (here f z 1 primary (inl (refl, refl)))
      (λ j v puts. here f z j v (puts_right h (P ++ (labels ++ H)) j v (puts_left P (labels ++ H) j v puts)))
      (λ j v puts. here f z j v (puts_right h (P ++ (labels ++ H)) j v (puts_right P (labels ++ H) j v (puts_right labels H j v puts))))
      (λ j v puts. here f z j v (puts_right h (P ++ (labels ++ H)) j v (puts_right P (labels ++ H) j v (puts_left labels H j v puts))))
      (λ why. (new, later f z 0 new (here (one_write 0 new) [] 0 new (inl (refl, refl)))))
      s asked
