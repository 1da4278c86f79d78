-- What `g` found on the way to what it made.
use Rattle.std.proofs.Common.{◌≡◌, ◌≢◌, ◌≤◌, ◌+◌, ◌-◌, ℕ, zero, suc, true, false, List, [], ◌∷◌, length, take, drop}
use Rattle.std.proofs.Common.{None}
use Rattle.std.proofs.Common.{refl, sym, ap, ◌∙◌, subst, arith}
use Rattle.std.specs.Prelude.{Contains, Ok, slice_index_or, is_none, nat_le}
use Rattle.std.proofs.lemmas.Bool.{both_ways, leb-false, or_left, or_right}
use Rattle.pt_guid.specs.declared.guid.Guid.{Guid}
use Rattle.pt_gpt.specs.Copies.{edge}
use Rattle.pt_gpt.specs.declared.table.Table.{Table}
use Rattle.pt_members.specs.declared.layout.Body.{Body}
use Rattle.pt_members.specs.declared.layout.Body.TheVariants.{Mbr, Gpt}
use Rattle.pt_members.specs.declared.layout.Layout.{Layout}
use Rattle.pt_members.specs.Tables.{HasFour}
use Rattle.pt_words.specs.declared.error.Refusal.TheVariants.{UnknownCode, NoRoomForGpt, NoFreshGuid, SameGuid}
use Rattle.pt_edit.specs.declared.partitions.Partition.{Partition}
use Rattle.pt_edit.specs.Entries.{no_room, partitions}
use Rattle.pt_edit.specs.inner.Entries.{IsItemAt}
use Rattle.pt_edit.specs.Converted.{partitions_in, new_type, has_unknown, has_twins, entry_of, gpt_of, checked}
use Rattle.pt_edit.specs.Converted.{converted}
use Rattle.pt_edit.proofs.EntryPlaces.{all_placed}
use Rattle.pt_edit.proofs.Numbers.{placed}
use Rattle.pt_edit.proofs.Steps.{bound, same_ok, unless_ok}

-- it is the table of an MBR
abbrev pub HasRecords : Body → Type 0
HasRecords (Mbr records chain) = Unit {0}
HasRecords (Gpt t) = ⊥

-- a partition has a type that no entry has
abbrev pub HasUnknown : List Partition → Type 0
HasUnknown ps = (p : Partition) × Contains ps p × (new_type p.kind ≡ None)

-- a GPT of these partitions on n sectors of b bytes, with GUIDs in order: the disk's, then the partitions'
pub record IsGptOf (b n : ℕ) (guids : List Guid) (ps : List Partition) (t : Table) : Type 0 where
  pub first : t.first ≡ edge b
  pub last : t.last ≡ n - edge b
  pub count : length t.entries ≡ 128
  pub each : (k : ℕ) (p : Partition) (guid : Guid) → IsItemAt ps k p → IsItemAt guids (1 + k) guid
      → slice_index_or t.entries (p.number - 1) None ≡ entry_of guid p
  pub others : (number : ℕ) → 1 ≤ number → number ≤ 128 → ((p : Partition) → Contains ps p → p.number ≢ number)
      → slice_index_or t.entries (number - 1) None ≡ None

-- `g`: each partition keeps its number and its sectors, and the labels stay
pub record Converted (b : ℕ) (guids : List Guid) (o p : Layout) : Type 0 where
  pub table : Table
  pub is_mbr : HasRecords o.body
  pub known : ¬ HasUnknown (partitions o.body)
  pub room : no_room b o ≡ false
  pub enough : 1 + length (partitions o.body) ≤ length guids
  pub is_table : HasFour o.body → IsGptOf b o.sectors guids (partitions o.body) table
  pub made : p ≡ record { sectors = o.sectors; body = Gpt table; labels = o.labels }

unknown : (ps : List Partition) → HasUnknown ps → has_unknown ps ≡ true
unknown [] (p, is, none) = absurd (omega (arith, is.1))
unknown (q ∷ qs) (p, (zero, lt, at), none) =
    or_left (is_none (new_type q.kind)) (has_unknown qs) (ap is_none (ap (λ (x : Partition). new_type x.kind) at ∙ none))
unknown (q ∷ qs) (p, (suc k, lt, at), none) =
    or_right (is_none (new_type q.kind)) (has_unknown qs) (unknown qs (p, (k, omega arith, at), none))

body_is : (y : Body) (ps : List Partition) → partitions_in y ≡ Ok ps → HasRecords y × (ps ≡ partitions y)
body_is (Mbr records chain) ps is = (tt, same_ok _ ps is)
body_is (Gpt t) ps is = cc

pub converted_is : (b : ℕ) (guids : List Guid) (o p : Layout) → converted b guids o ≡ Ok p → Converted b guids o p
unfolding converted
converted_is b guids o p is =
    let (found, one, rest) = bound (partitions_in o.body) _ p is in
    let (is_mbr, are) = body_is o.body found one in
    let (ps, two, same) = bound (checked b guids o found) _ p rest in
    let (known, a1) = unless_ok (has_unknown found) UnknownCode _ ps two in
    let (room, a2) = unless_ok (no_room b o) NoRoomForGpt _ ps a1 in
    let (enough, a3) = unless_ok (nat_le (length guids) (length found)) NoFreshGuid _ ps a2 in
    let (distinct, a4) = unless_ok (has_twins (take (length found) (drop 1 guids))) SameGuid (Ok found) ps a3 in
    let here : ps ≡ partitions o.body = same_ok found ps a4 ∙ are in
    let few : 1 + length (partitions o.body) ≤ length guids =
    subst (λ (l : List Partition). 1 + length l ≤ length guids) are (omega (arith, leb-false (length guids) (length found) enough)) in
    record {
      table = gpt_of b o.sectors guids (partitions o.body);
      is_mbr = is_mbr;
      known = λ bad. both_ways (has_unknown found) known
          (subst (λ (l : List Partition). has_unknown l ≡ true) (sym are) (unknown (partitions o.body) bad));
      room = room;
      enough = few;
      is_table = λ four. (let done = all_placed o.sectors guids (partitions o.body) (placed b o four room) few in record {
        first = refl;
        last = refl;
        count = done.count;
        each = λ k q guid at. done.each k q guid (omega (arith, at.0)) at;
        others = λ number low high spare. done.others number low high (λ j q lt at. spare q (j, at.0, at.1));
      });
      made = same_ok _ p same
          ∙ ap (λ (l : List Partition). record { sectors = o.sectors; body = Gpt (gpt_of b o.sectors guids l); labels = o.labels }) here;
    }
