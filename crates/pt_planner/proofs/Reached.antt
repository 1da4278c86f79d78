-- Lemmas on specs/Phases.antt: the sectors that the phases of both copies write: for whoever puts a plan together.
use Rattle.std.proofs.Common.{◌≡◌, ◌⊎◌, inl, inr, ⊎_elim, ℕ, ◌<◌, List, [], ◌∷◌, ◌++◌, refl, sym, subst, arith, Option, Some, None}
use Rattle.pt_sector.specs.Sectors.{Writes, Puts}
use Rattle.pt_mbr.specs.Records.{IsProtective}
use Rattle.pt_gpt.specs.Copies.{array_len, HasRoom}
use Rattle.pt_gpt.specs.declared.table.Side.TheVariants.{Primary}
use Rattle.pt_gpt.specs.declared.table.Table.{Table}
use Rattle.pt_apply.specs.Plans.{writes_in}
use Rattle.pt_cases.specs.Writes.{IsOfCopy, array_phase, one_write, closing, backup_phase, Protects}
use Rattle.pt_cases.specs.Cases.{labels_and_backup, backup_first_phases, primary_and_labels, primary_first_phases, copies_and_labels}
use Rattle.pt_cases.specs.Cases.{from_mbr_phases}
use Rattle.pt_apply.proofs.Puts.{puts_split}
use Rattle.pt_cases.proofs.Frames.{one_is}
use Rattle.pt_cases.proofs.Sides.{puts_array, puts_backup}
use Rattle.pt_planner.specs.Phases.{last_of, Reaches}

pub header_reached : (b n s : ℕ) (header v : List ℕ) → Puts (one_write 1 header) s v → IsOfCopy b n s
header_reached b n s header v puts = let is = one_is 1 s header v puts in (omega (arith, is), inl (omega (arith, is)))

pub array_reached : (b n : ℕ) (t : Table) (s : ℕ) (v : List ℕ) → Puts (array_phase b n t Primary) s v → IsOfCopy b n s
array_reached b n t s v puts =
    let is = puts_array b t.entries 2 (array_len b) s v puts in (omega (arith, is.low), inl (omega (arith, is.high)))

pub backup_reached : (b n : ℕ) (t : Table) (header : List ℕ) (s : ℕ) (v : List ℕ) → HasRoom b n
    → Puts (backup_phase b n t header) s v → IsOfCopy b n s
backup_reached b n t header s v room puts =
    let is = puts_backup b n t header s v room puts in
    let low = is.0 in
    (omega (arith, low, room), inr (omega (arith, low), is.1))

-- what is written before the switch: where a primary copy stands, where none stands, and on an MBR disk
pub labels_and_backup_reached : (b n : ℕ) (t : Table) (backup : List ℕ) (labels : Writes) (s : ℕ) (v : List ℕ) → HasRoom b n
    → Puts (labels_and_backup b n t backup labels) s v → Reaches b n labels s v
labels_and_backup_reached b n t backup labels s v room puts = ⊎_elim
    (λ label. inr label)
    (λ copy. inl (backup_reached b n t backup s v room copy))
    (puts_split labels (backup_phase b n t backup) s v puts)

pub primary_and_labels_reached : (b n : ℕ) (t : Table) (labels : Writes) (s : ℕ) (v : List ℕ)
    → Puts (primary_and_labels b n t labels) s v → Reaches b n labels s v
primary_and_labels_reached b n t labels s v puts = ⊎_elim
    (λ array. inl (array_reached b n t s v array))
    (λ label. inr label)
    (puts_split (array_phase b n t Primary) labels s v puts)

pub closing_reached : (b n : ℕ) (t : Table) (labels : Writes) (s : ℕ) (v : List ℕ)
    → Puts (closing b ++ primary_and_labels b n t labels) s v → Reaches b n labels s v
closing_reached b n t labels s v puts = ⊎_elim
    (λ header. inl (header_reached b n s _ v header))
    (λ rest. primary_and_labels_reached b n t labels s v rest)
    (puts_split (closing b) (primary_and_labels b n t labels) s v puts)

pub copies_and_labels_reached : (b n : ℕ) (t : Table) (primary backup : List ℕ) (labels : Writes) (s : ℕ) (v : List ℕ)
    → HasRoom b n → Puts (copies_and_labels b n t primary backup labels) s v → Reaches b n labels s v
copies_and_labels_reached b n t primary backup labels s v room puts = ⊎_elim
    (λ header. inl (header_reached b n s primary v header))
    (λ rest. ⊎_elim
    (λ array. inl (array_reached b n t s v array))
    (λ last. labels_and_backup_reached b n t backup labels s v room last)
    (puts_split (array_phase b n t Primary) (labels_and_backup b n t backup labels) s v rest))
    (puts_split (one_write 1 primary) (array_phase b n t Primary ++ labels_and_backup b n t backup labels) s v puts)

-- what all phases write, the last one aside
pub backup_first_reached : (b n : ℕ) (t : Table) (primary backup : List ℕ) (labels : Writes) (last : List Writes) (s : ℕ) (v : List ℕ)
    → HasRoom b n → Puts (writes_in (backup_first_phases b n t primary backup labels last)) s v
    → Puts (writes_in last) s v ⊎ Reaches b n labels s v
backup_first_reached b n t primary backup labels last s v room puts =
    let h : Writes = one_write 1 primary in
    let P : Writes = array_phase b n t Primary in
    ⊎_elim
    (λ front. inr (labels_and_backup_reached b n t backup labels s v room front))
    (λ x. ⊎_elim
    (λ zeros. inr (inl (header_reached b n s _ v zeros)))
    (λ y. ⊎_elim
    (λ array. inr (inl (array_reached b n t s v array)))
    (λ z. ⊎_elim (λ header. inr (inl (header_reached b n s primary v header))) (λ end. inl end) (puts_split h (writes_in last) s v z))
    (puts_split P (writes_in (h ∷ last)) s v y))
    (puts_split (closing b) (writes_in (P ∷ h ∷ last)) s v x))
    (puts_split (labels_and_backup b n t backup labels) (writes_in (closing b ∷ P ∷ h ∷ last)) s v puts)

pub primary_first_reached : (b n : ℕ) (t : Table) (primary backup : List ℕ) (labels : Writes) (last : List Writes) (s : ℕ) (v : List ℕ)
    → HasRoom b n → Puts (writes_in (primary_first_phases b n t primary backup labels last)) s v
    → Puts (writes_in last) s v ⊎ Reaches b n labels s v
primary_first_reached b n t primary backup labels last s v room puts =
    let h : Writes = one_write 1 primary in
    let m : Writes = primary_and_labels b n t labels in
    let k : Writes = backup_phase b n t backup in
    ⊎_elim
    (λ zeros. inr (inl (header_reached b n s _ v zeros)))
    (λ x. ⊎_elim
    (λ middle. inr (primary_and_labels_reached b n t labels s v middle))
    (λ y. ⊎_elim
    (λ header. inr (inl (header_reached b n s primary v header)))
    (λ z. ⊎_elim (λ copy. inr (inl (backup_reached b n t backup s v room copy))) (λ end. inl end) (puts_split k (writes_in last) s v z))
    (puts_split h (writes_in (k ∷ last)) s v y))
    (puts_split m (writes_in (h ∷ k ∷ last)) s v x))
    (puts_split (closing b) (writes_in (m ∷ h ∷ k ∷ last)) s v puts)

-- a last phase writes sector 0, if it is there
pub last_reached : (last : Option (List ℕ)) (s : ℕ) (v : List ℕ) → Puts (writes_in (last_of last)) s v → (s ≡ 0) × (last ≡ Some v)
last_reached None s v puts = absurd puts
last_reached (Some w) s v puts =
    ⊎_elim (λ put. (sym put.0, subst (λ (x : List ℕ). Some w ≡ Some x) put.1 refl)) (λ nothing. absurd nothing) puts

-- and it is there only where sector 0 isn't protective yet
pub protects_reached : (n : ℕ) (old : List ℕ) (last : List Writes) (s : ℕ) (v : List ℕ) → Protects n old last
    → Puts (writes_in last) s v → (s ≡ 0) × (¬ IsProtective n old)
protects_reached n old last s v (inl (already, none)) puts = absurd (subst (λ (ps : List Writes). Puts (writes_in ps) s v) none puts)
protects_reached n old last s v (inr (not_yet, (new, from, one))) puts =
    ((last_reached (Some new) s v (subst (λ (ps : List Writes). Puts (writes_in ps) s v) one puts)).0, not_yet)

pub from_mbr_reached : (b n : ℕ) (t : Table) (primary backup : List ℕ) (labels : Writes) (head : List ℕ) (s : ℕ) (v : List ℕ)
    → HasRoom b n → Puts (writes_in (from_mbr_phases b n t primary backup labels head)) s v
    → ((s ≡ 0) × (v ≡ head)) ⊎ Reaches b n labels s v
from_mbr_reached b n t primary backup labels head s v room puts = ⊎_elim
    (λ front. inr (copies_and_labels_reached b n t primary backup labels s v room front))
    (λ last. ⊎_elim (λ put. inl (sym put.0, sym put.1)) (λ nothing. absurd nothing) last)
    (puts_split (copies_and_labels b n t primary backup labels) (writes_in (one_write 0 head ∷ [])) s v puts)

-- all of it is on the disk, if the labels are
pub reaches_below : (b n : ℕ) (labels : Writes) (s : ℕ) (v : List ℕ) → HasRoom b n
    → ((k : ℕ) (x : List ℕ) → Puts labels k x → k < n) → Reaches b n labels s v → s < n
reaches_below b n labels s v room below (inl (some, inl low)) = omega (arith, low, room)
reaches_below b n labels s v room below (inl (some, inr high)) = high.1
reaches_below b n labels s v room below (inr label) = below s v label
