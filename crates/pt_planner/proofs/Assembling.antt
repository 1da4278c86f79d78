-- Phases, put together write by write.
use Rattle.std.proofs.Common.{◌≡◌, ◌∙◌, ℕ, ◌+◌, ◌-◌, List, [], ◌∷◌, ◌++◌, Option, refl, sym, ap, add-one, append_assoc}
use Rattle.pt_apply.specs.Plans.{writes_of}
use Rattle.pt_apply.specs.declared.plan.Write.{Write}
use Rattle.pt_gpt.specs.Copies.{array_sector, AllFit}
use Rattle.pt_gpt.specs.declared.entry.Entry.{Entry}
use Rattle.pt_gpt.specs.declared.table.Side.TheVariants.{Primary, Backup}
use Rattle.pt_gpt.specs.declared.table.Table.{Table}
use Rattle.pt_sector.specs.Sectors.{Writes}
use Rattle.pt_cases.specs.Cases.{backup_first_phases, primary_first_phases, from_mbr_phases, primary_and_labels, labels_and_backup}
use Rattle.pt_cases.specs.Writes.{header_of, IsWrittenHeader, array_writes, array_phase, one_write, closing, backup_phase}
use Rattle.pt_cases.proofs.Sides.{array_none, array_suc}
use Rattle.pt_planner.specs.inner.Phases.{AddsBackup, ArePrimary}
use Rattle.pt_planner.specs.Phases.{last_of, WroteCopies}
use Rattle.pt_planner.proofs.Ranges.{writes_more}

append_none : {X : Type 0} (xs : List X) → xs ++ [] ≡ xs
append_none [] = refl
append_none (x ∷ xs) = ap (λ (ys : List _). x ∷ ys) (append_none xs)

pub array_begins : (b : ℕ) (es : List (Option Entry)) (at : ℕ) (ws : Writes) → ws ≡ ws ++ array_writes b es at 0
array_begins b es at ws = sym (ap (λ (xs : Writes). ws ++ xs) (array_none b es at) ∙ append_none ws)

array_more : (b : ℕ) (es : List (Option Entry)) (at k : ℕ)
    → array_writes b es at (k + 1) ≡ array_writes b es at k ++ (at + k, array_sector b es k) ∷ []
array_more b es at k = rw add-one (array_suc b es at k)

pub array_on : {b : _} (n : ℕ) (es : List (Option Entry)) (at k : ℕ) (before : Writes) (ws : List (Write b)) (w : Write b)
    → writes_of ws ≡ before ++ array_writes n es at k → w.lba.0 ≡ at + k → w.bytes ≡ array_sector n es k
    → writes_of (ws ++ w ∷ []) ≡ before ++ array_writes n es at (k + 1)
array_on n es at k before ws w so_far lba bytes =
    writes_more ws w
    ∙ rw (so_far, lba, bytes)
    (append_assoc before (array_writes n es at k) ((at + k, array_sector n es k) ∷ [])
    ∙ ap (λ (xs : Writes). before ++ xs) (sym (array_more n es at k)))

-- the three phases of the primary copy
pub are_primary : (b n : ℕ) (t : Table) (array : Writes) (header : List ℕ) (before one two now : List Writes)
    → IsWrittenHeader b (header_of b n t Primary) header → AllFit t.entries → one ≡ before ++ closing b ∷ []
    → two ≡ one ++ array ∷ [] → now ≡ two ++ one_write 1 header ∷ [] → ArePrimary b n t array before now
are_primary b n t array header before one two now is fit one_is two_is now_is = record {
  header = header;
  is_header = is;
  fit = fit;
  is = now_is
      ∙ rw (two_is, one_is)
      (append_assoc (before ++ closing b ∷ []) (array ∷ []) (one_write 1 header ∷ [])
      ∙ append_assoc before (closing b ∷ []) (array ∷ one_write 1 header ∷ []));
}

-- the array and then the header
pub adds_backup : {b : _} (n : ℕ) (t : Table) (before : Writes) (ws : List (Write b)) (w : Write b)
    → writes_of ws ≡ before ++ array_phase b n t Backup → w.lba.0 ≡ n - 1 → IsWrittenHeader b (header_of b n t Backup) w.bytes
    → AddsBackup b n t before (writes_of (ws ++ w ∷ []))
adds_backup {b} n t before ws w array lba is = record {
  header = w.bytes;
  is_header = is;
  is = writes_more ws w ∙ rw (array, lba) (append_assoc before (array_phase b n t Backup) ((n - 1, w.bytes) ∷ []));
}

pub wrote_backup_first : (b n : ℕ) (t : Table) (labels front array : Writes) (last : Option (List ℕ)) (none first more all : List Writes)
    → AddsBackup b n t labels front → array ≡ array_phase b n t Primary → none ≡ [] → first ≡ none ++ front ∷ []
    → ArePrimary b n t array first more → all ≡ more ++ last_of last
    → WroteCopies b n t (λ p k. backup_first_phases b n t p k labels (last_of last)) all
wrote_backup_first b n t labels front array last none first more all backup array_is none_is first_is primary all_is = record {
  primary = primary.header;
  backup = backup.header;
  is_primary = primary.is_header;
  is_backup = backup.is_header;
  fit = primary.fit;
  is = all_is
      ∙ ap (λ (ps : List Writes). ps ++ last_of last)
      (primary.is ∙ ap (λ (ps : List Writes). ps ++ (closing b ∷ array ∷ one_write 1 primary.header ∷ []))
      (first_is ∙ ap (λ (ps : List Writes). ps ++ front ∷ []) none_is))
      ∙ ap (λ (ws : Writes). ws ∷ closing b ∷ array ∷ one_write 1 primary.header ∷ last_of last) backup.is
      ∙ ap (λ (ws : Writes). labels_and_backup b n t backup.header labels ∷ closing b ∷ ws ∷ one_write 1 primary.header ∷ last_of last)
      array_is;
}

pub wrote_primary_first : (b n : ℕ) (t : Table) (labels empty backup array : Writes) (last : Option (List ℕ))
    (none more most all : List Writes)
    → empty ≡ [] → AddsBackup b n t empty backup → array ≡ primary_and_labels b n t labels → none ≡ []
    → ArePrimary b n t array none more → most ≡ more ++ backup ∷ [] → all ≡ most ++ last_of last
    → WroteCopies b n t (λ p k. primary_first_phases b n t p k labels (last_of last)) all
wrote_primary_first b n t labels empty copy array last none more most all empty_is backup array_is none_is primary most_is all_is = record {
  primary = primary.header;
  backup = backup.header;
  is_primary = primary.is_header;
  is_backup = backup.is_header;
  fit = primary.fit;
  is = all_is
      ∙ ap (λ (ps : List Writes). ps ++ last_of last)
      (most_is ∙ ap (λ (ps : List Writes). ps ++ copy ∷ [])
      (primary.is ∙ ap (λ (ps : List Writes). ps ++ (closing b ∷ array ∷ one_write 1 primary.header ∷ [])) none_is))
      ∙ ap (λ (ws : Writes). closing b ∷ array ∷ one_write 1 primary.header ∷ ws ∷ last_of last)
      (backup.is ∙ ap (λ (ws : Writes). ws ++ backup_phase b n t backup.header) empty_is)
      ∙ ap (λ (ws : Writes). closing b ∷ ws ∷ one_write 1 primary.header ∷ backup_phase b n t backup.header ∷ last_of last) array_is;
}

pub wrote_from_mbr : (b n : ℕ) (t : Table) (labels first second third writes : Writes) (primary head : List ℕ) (none one all : List Writes)
    → IsWrittenHeader b (header_of b n t Primary) primary → AllFit t.entries → first ≡ one_write 1 primary
    → second ≡ first ++ array_phase b n t Primary → third ≡ second ++ labels → AddsBackup b n t third writes → none ≡ []
    → one ≡ none ++ writes ∷ [] → all ≡ one ++ one_write 0 head ∷ []
    → WroteCopies b n t (λ p k. from_mbr_phases b n t p k labels head) all
wrote_from_mbr b n t labels first second third writes primary head none one all is_primary fit first_is second_is third_is backup
    none_is one_is all_is =
    record {
      primary = primary;
      backup = backup.header;
      is_primary = is_primary;
      is_backup = backup.is_header;
      fit = fit;
      is = all_is
          ∙ ap (λ (ps : List Writes). ps ++ one_write 0 head ∷ []) (one_is ∙ ap (λ (ps : List Writes). ps ++ writes ∷ []) none_is)
          ∙ ap (λ (ws : Writes). ws ∷ one_write 0 head ∷ []) (backup.is ∙ rw (third_is, second_is, first_is) in_order);
    }
  where
    in_order :
        ((one_write 1 primary ++ array_phase b n t Primary) ++ labels) ++ backup_phase b n t backup.header ≡ one_write 1 primary ++
        (array_phase b n t Primary ++ (labels ++ backup_phase b n t backup.header))
    in_order =
        append_assoc (one_write 1 primary ++ array_phase b n t Primary) labels (backup_phase b n t backup.header)
        ∙ append_assoc (one_write 1 primary) (array_phase b n t Primary) (labels ++ backup_phase b n t backup.header)
