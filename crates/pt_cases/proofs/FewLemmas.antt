-- Lemmas on how many writes a plan for a GPT has: those of both copies and of sector 0, and one for each new label.
use Rattle.std.proofs.Common.{◌≡◌, ◌∙◌, inl, inr, ℕ, suc, ◌+◌, ◌-◌, ◌*◌, ◌≤◌, List, [], ◌∷◌, ◌++◌, length, Option, Some, refl, sym, subst}
use Rattle.std.proofs.Common.{arith, length-append}
use Rattle.std.specs.Prelude.{Contains}
use Rattle.pt_sector.specs.Sectors.{Sectors, Writes, Puts}
use Rattle.pt_bsd.specs.declared.label.Label.{Label}
use Rattle.pt_gpt.specs.Copies.{array_len}
use Rattle.pt_gpt.specs.declared.table.Side.TheVariants.{Primary, Backup}
use Rattle.pt_gpt.specs.declared.table.Table.{Table}
use Rattle.pt_recover.specs.Denotes.{Denotes}
use Rattle.pt_members.specs.Members.{places_of, place_of, IsPlace}
use Rattle.pt_members.specs.declared.layout.Body.TheVariants.{Mbr, Gpt}
use Rattle.pt_members.specs.declared.layout.Labelled.{Labelled}
use Rattle.pt_members.specs.declared.layout.Layout.{Layout}
use Rattle.pt_members.specs.declared.layout.Slice.{Slice}
use Rattle.pt_apply.specs.Plans.{writes_in}
use Rattle.pt_cases.specs.Cases.{Copies, IsPlan, idle, backup_first, primary_first, from_mbr, one_label, within_mbr, IsBackupFirst}
use Rattle.pt_cases.specs.Cases.{IsPrimaryFirst, IsFromMbr, backup_first_phases, primary_first_phases, from_mbr_phases, labels_and_backup}
use Rattle.pt_cases.specs.Cases.{primary_and_labels, copies_and_labels}
use Rattle.pt_cases.specs.Writes.{array_phase, backup_phase, one_write, closing, Protects, Along, Had, Set, IsLabelSet, stood, set, there}
use Rattle.pt_cases.proofs.Sides.{array_count}
use Rattle.pt_cases.specs.Keeps.{IsNewAt, copies_bound, HasFewWrites}

module _ (b : ℕ) (d : Sectors) (o : Option Layout) (all : Writes) where
  here_new : (w : Slice) (l : Label) (ws : List Slice) (rest labels : List Labelled) (s : ℕ) (v : List ℕ)
      → labels ≡ record { number = w.number; label = l } ∷ rest → IsLabelSet b d o all w l → s ≡ place_of w → Puts all s v
      → IsNewAt b d o (w ∷ ws) labels s
  here_new w l ws rest labels s v same (stood had reads never) at puts = absurd (never v (subst (λ (j : ℕ). Puts all j v) at puts))
  here_new w l ws rest labels s v same (set x none encoded unread one) at puts = record {
    slice = w;
    label = l;
    stands = (0, omega arith, refl);
    wanted = subst (λ (ls : List Labelled). Contains ls (record { number = w.number; label = l })) (sym same) (0, omega arith, refl);
    place = sym at;
    none = λ m had. none m (subst (λ (j : ℕ). Had b d o j m) at had);
  }
  here_new w l ws rest labels s v same (there none encoded reads never) at puts = absurd (never v (subst (λ (j : ℕ). Puts all j v) at puts))

  later_new : (w : Slice) (ws : List Slice) (rest labels : List Labelled) (s : ℕ)
      → ((x : Labelled) → Contains rest x → Contains labels x) → IsNewAt b d o ws rest s → IsNewAt b d o (w ∷ ws) labels s
  later_new w ws rest labels s within is = record {
    slice = is.slice;
    label = is.label;
    stands = (suc is.stands.0, omega (arith, is.stands.1), is.stands.2);
    wanted = within (record { number = is.slice.number; label = is.label }) is.wanted;
    place = is.place;
    none = is.none;
  }

  behind : (x : Labelled) (rest labels : List Labelled) → labels ≡ x ∷ rest → (y : Labelled) → Contains rest y → Contains labels y
  behind x rest labels same y has = subst (λ (ls : List Labelled). Contains ls y) (sym same) (suc has.0, omega (arith, has.1), has.2)

  -- what is written at a place is a new label's
  put_new : (ws : List Slice) (labels : List Labelled) (s : ℕ) (v : List ℕ) → Along (Set b d o all) ws labels → IsPlace ws s
      → Puts all s v → IsNewAt b d o ws labels s
  put_new [] labels s v along at puts = absurd at
  put_new (w ∷ ws) labels s v (inl (l, rest, same, it, later)) (inl at) puts = here_new w l ws rest labels s v same it at puts
  put_new (w ∷ ws) labels s v (inl (l, rest, same, it, later)) (inr more) puts =
      later_new w ws rest labels s (behind (record { number = w.number; label = l }) rest labels same) (put_new ws rest s v later more puts)
  put_new (w ∷ ws) labels s v (inr (it, later)) (inl at) puts = absurd (it.1 v (subst (λ (j : ℕ). Puts all j v) at puts))
  put_new (w ∷ ws) labels s v (inr (it, later)) (inr more) puts =
      later_new w ws labels labels s (λ x has. has) (put_new ws labels s v later more puts)

no_writes : (b : ℕ) (d : Sectors) (o : Option Layout) (p : Layout) (phases : List Writes) → Denotes b d o
    → length (writes_in phases) ≤ 1 → HasFewWrites b d p phases
no_writes b d o p phases from few = record {
  old = o;
  from = from;
  labels = [];
  ascending = λ i j less lt. absurd (omega (arith, lt));
  new = λ s v puts. absurd puts;
  count = omega (arith, few);
}

last_one : (n : ℕ) (old : List ℕ) (last : List Writes) → Protects n old last → length (writes_in last) ≤ 1
last_one n old last (inl (already, none)) = subst (λ (ps : List Writes). length (writes_in ps) ≤ 1) (sym none) (omega arith)
last_one n old last (inr (not_yet, (new, from, one))) = subst (λ (ps : List Writes). length (writes_in ps) ≤ 1) (sym one) (omega arith)

with_labels : (b : ℕ) (d : Sectors) (o : Option Layout) (p : Layout) (t : Table) (phases : List Writes) → Denotes b d o
    → (copies : Copies b d o p t) → length (writes_in phases) ≤ copies_bound b (length copies.labels) → HasFewWrites b d p phases
with_labels b d o p t phases from copies count = record {
  old = o;
  from = from;
  labels = copies.labels;
  ascending = copies.writes.ascending;
  new = λ s v puts. put_new b d o copies.labels (places_of b p.sectors p.body) p.labels s v copies.writes.set
      (copies.writes.each s v puts) puts;
  count = count;
}

module _ (b n : ℕ) (t : Table) (backup : List ℕ) where
  pub array_length : length (array_phase b n t Primary) ≡ array_len b
  array_length = array_count b t.entries 2 (array_len b)

  pub backup_length : length (backup_phase b n t backup) ≡ array_len b + 1
  backup_length =
      let each = array_count b t.entries (n - (array_len b + 1)) (array_len b) in
      length-append (array_phase b n t Backup) (one_write (n - 1) backup) ∙ omega (arith, each)

-- as many writes as both copies, sector 0 and the new labels have
module _ (b : ℕ) (d : Sectors) (o : Option Layout) (p : Layout) (t : Table) (phases : List Writes) where
  abbrev n : ℕ
  n = length d

  abbrev P : Writes
  P = array_phase b n t Primary

  abbrev Few : List Writes → Writes → Type 0
  Few planned labels = length (writes_in planned) ≤ copies_bound b (length labels)

  sides : (backup : List ℕ) → length P + length (backup_phase b n t backup) ≡ 2 * array_len b + 1
  sides backup = let first = array_length b n t backup in let second = backup_length b n t backup in omega (arith, first, second)

  pub backup_first_count : (is : IsBackupFirst b d o p t phases)
      → Few (backup_first_phases b n t is.copies.primary is.copies.backup is.copies.labels is.last) is.copies.labels
  backup_first_count is =
      let first =
      length-append (labels_and_backup b n t is.copies.backup is.copies.labels)
      (closing b ++ (P ++ (one_write 1 is.copies.primary ++ writes_in is.last))) in
      let labels = length-append is.copies.labels (backup_phase b n t is.copies.backup) in
      let mid = length-append P (one_write 1 is.copies.primary ++ writes_in is.last) in
      omega (arith, first, labels, mid, sides is.copies.backup, last_one n _ is.last is.protects)

  pub primary_first_count : (is : IsPrimaryFirst b d o p t phases)
      → Few (primary_first_phases b n t is.copies.primary is.copies.backup is.copies.labels is.last) is.copies.labels
  primary_first_count is =
      let H = backup_phase b n t is.copies.backup in
      let first = length-append (primary_and_labels b n t is.copies.labels) (one_write 1 is.copies.primary ++ (H ++ writes_in is.last)) in
      let labels = length-append P is.copies.labels in
      let mid = length-append H (writes_in is.last) in
      omega (arith, first, labels, mid, sides is.copies.backup, last_one n _ is.last is.protects)

  pub from_mbr_count : (is : IsFromMbr b d o p t phases)
      → Few (from_mbr_phases b n t is.copies.primary is.copies.backup is.copies.labels is.head) is.copies.labels
  from_mbr_count is =
      let H = backup_phase b n t is.copies.backup in
      let first = length-append (copies_and_labels b n t is.copies.primary is.copies.backup is.copies.labels) (one_write 0 is.head) in
      let mid = length-append P (is.copies.labels ++ H) in
      let labels = length-append is.copies.labels H in
      omega (arith, first, labels, mid, sides is.copies.backup)

pub plan_few : (b : ℕ) (d : Sectors) (p : Layout) (phases : List Writes) (t : Table) → p.body ≡ Gpt t → IsPlan b d p phases
    → HasFewWrites b d p phases
plan_few b d p phases t body (idle healthy none) =
    no_writes b d (Some p) p phases healthy.denotes (subst (λ (ps : List Writes). length (writes_in ps) ≤ 1) (sym none) (omega arith))
plan_few b d p phases t body (backup_first o u is) = with_labels b d o p u phases is.common.from is.copies
    (subst (λ (ps : List Writes). length (writes_in ps) ≤ copies_bound b (length is.copies.labels)) (sym is.is)
    (backup_first_count b d o p u phases is))
plan_few b d p phases t body (primary_first o u is) = with_labels b d o p u phases is.common.from is.copies
    (subst (λ (ps : List Writes). length (writes_in ps) ≤ copies_bound b (length is.copies.labels)) (sym is.is)
    (primary_first_count b d o p u phases is))
plan_few b d p phases t body (from_mbr o u is) = with_labels b d o p u phases is.common.from is.copies
    (subst (λ (ps : List Writes). length (writes_in ps) ≤ copies_bound b (length is.copies.labels)) (sym is.is)
    (from_mbr_count b d o p u phases is))
plan_few b d p phases t body (one_label o u is) =
    no_writes b d o p phases is.common.from (subst (λ (ps : List Writes). length (writes_in ps) ≤ 1) (sym is.is) (omega arith))
plan_few b d p phases t body (within_mbr o records chain is) = absurd (let both : Gpt t ≡ Mbr records chain = sym body ∙ is.body in cc)
