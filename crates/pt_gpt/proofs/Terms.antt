-- Bytes are one header or entry at most; a side has one copy at most, and none where it has a fault;
-- and the sectors that decide a side do decide it.
use Rattle.std.specs.Prelude.{◌≡◌, ◌<◌, ◌≤◌, ◌⊎◌, ◌↔◌, ℕ, zero, suc, ◌+◌, ◌*◌, List, length, take, slice_range, slice_index_or, Option}
use Rattle.std.specs.Prelude.{Some, None, IfSome}
use Rattle.std.proofs.Common.{refl, sym, ap, ◌∙◌, subst, arith, inl, inr}
use Rattle.std.proofs.lemmas.List.{ext_get_or}
use Rattle.pt_sector.specs.Sectors.{Sectors, sector, Agrees}
use Rattle.pt_sum.specs.Sums.{crc_of}
use Rattle.pt_gpt.specs.Copies.{HeaderBytes, IsHeaderFault, counted, AreEntries, AllTyped, header_place, header_sector, IsPlaced}
use Rattle.pt_gpt.specs.Copies.{IsPlaceFault, IsHead, IsHeadFault, no_header, misplaced, bytes_from, array_of, HasArrayCrc, CopyWith}
use Rattle.pt_gpt.specs.Copies.{Copy, HasCopy, IsCopyFault, no_head, other_crc, InArray, SideReads, SameSide}
use Rattle.pt_gpt.specs.Entries.{EntryBytes, EntryIs, IsTyped}
use Rattle.pt_gpt.specs.declared.header.Header.{Header}
use Rattle.pt_gpt.specs.declared.entry.Entry.{Entry}
use Rattle.pt_gpt.specs.declared.error.CopyError.{CopyError}
use Rattle.pt_gpt.specs.declared.error.CopyError.TheVariants.{Signature, Revision, HeaderSize, HeaderCrc, MyLba, ArrayPlace, EntryShape}
use Rattle.pt_gpt.specs.declared.error.CopyError.TheVariants.{UsableRange}
use Rattle.pt_gpt.specs.declared.table.Side.{Side}
use Rattle.pt_gpt.specs.declared.table.Table.{Table}

header_ext : (h k : Header) → h.my ≡ k.my → h.alternate ≡ k.alternate → h.first ≡ k.first → h.last ≡ k.last → h.disk.0 ≡ k.disk.0
    → h.array ≡ k.array → h.count ≡ k.count
    → h.entry_size ≡ k.entry_size → h.array_crc ≡ k.array_crc → h ≡ k
header_ext h k a b c d e f g i j = grind arith

-- the bytes are one header at most
pub header_is_one_lem : (b : ℕ) (h k : Header) (bytes : List ℕ) → HeaderBytes b h bytes → HeaderBytes b k bytes → h ≡ k
header_is_one_lem b h k bytes p q =
    let x = p.fields in
    let y = q.fields in
    header_ext h k (sym x.my ∙ y.my) (sym x.alternate ∙ y.alternate) (sym x.first ∙ y.first) (sym x.last ∙ y.last)
    (sym x.disk ∙ y.disk) (sym x.array ∙ y.array) (sym x.count ∙ y.count) (sym x.entry_size ∙ y.entry_size) (sym x.array_crc ∙ y.array_crc)

pub entry_ext : (e f : Entry) → e.kind.0 ≡ f.kind.0 → e.unique.0 ≡ f.unique.0 → e.first ≡ f.first → e.last ≡ f.last
    → e.attributes ≡ f.attributes → e.name ≡ f.name → e ≡ f
entry_ext e f a b c d g i =
    λ x. record { kind = record { 0 = a x }; unique = record { 0 = b x }; first = c x; last = d x; attributes = g x; name = i x }

-- the bytes are one entry at most
pub entry_is_one_lem : (e f : Entry) (bytes : List ℕ) → EntryBytes e bytes → EntryBytes f bytes → e ≡ f
entry_is_one_lem e f bytes x y =
    let p = x.fields in
    let q = y.fields in
    let name : e.name ≡ f.name =
    ext_get_or 0 e.name f.name (p.name.0 ∙ sym q.name.0) (λ i lt. let small : i < 36 = omega arith in p.name.1 i small
    ∙ sym (q.name.1 i small)) in
    entry_ext e f (sym p.kind ∙ q.kind) (sym p.unique ∙ q.unique) (sym p.first ∙ q.first) (sym p.last ∙ q.last)
    (sym p.attributes ∙ q.attributes) name

pub entry_same : (e f : Option Entry) (bytes : List ℕ) → EntryIs e bytes → EntryIs f bytes → e ≡ f
entry_same None None bytes p q = refl
entry_same None (Some f) bytes p q = absurd (q.used p)
entry_same (Some e) None bytes p q = absurd (p.used q)
entry_same (Some e) (Some f) bytes p q = ap (λ (x : Entry). some x) (entry_is_one_lem e f bytes p q) where
  some : Entry → Option Entry
  some x = Some x

-- the bytes are one list of entries at most
pub entries_are_one_lem : (es fs : List (Option Entry)) (bytes : List ℕ) → AreEntries es bytes → AreEntries fs bytes → es ≡ fs
entries_are_one_lem es fs bytes p q =
    let long : length es ≡ length fs = omega arith in
    ext_get_or None es fs long (λ k lt. entry_same _ _ (slice_range bytes (k * 128) (k * 128 + 128)) (p.each k lt) (q.each k (omega arith)))

-- a fault of the header's bytes excludes a header
pub no_header_lem : (b : ℕ) (e : CopyError) (h : Header) (bytes : List ℕ) → IsHeaderFault b e bytes → ¬ HeaderBytes b h bytes
no_header_lem b Signature h bytes fault is = fault is.signature
no_header_lem b Revision h bytes fault is = fault.1 is.revision
no_header_lem b HeaderSize h bytes fault is = fault.2 is.size
no_header_lem b HeaderCrc h bytes fault is = fault.3 is.crc
no_header_lem b _ h bytes fault is = absurd fault

place_fault : (b : ℕ) (side : Side) (n : ℕ) (h : Header) (e : CopyError) → IsPlaceFault b side n h e → ¬ IsPlaced b side n h
place_fault b side n h MyLba fault placed = fault placed.my
place_fault b side n h ArrayPlace fault placed = fault.1 placed.place
place_fault b side n h EntryShape fault placed = fault.2 placed.shape
place_fault b side n h UsableRange fault placed = fault.3 placed.range
place_fault b side n h _ fault placed = absurd fault

-- one header stands on a side at most
pub head_is_one_lem : (b : ℕ) (d : Sectors) (side : Side) (h k : Header) → IsHead b d side h → IsHead b d side k → h ≡ k
head_is_one_lem b d side h k p q = header_is_one_lem b h k (header_sector d side) p.bytes q.bytes

-- and none where there is a fault
pub no_head_lem : (b : ℕ) (d : Sectors) (side : Side) (e : CopyError) (h : Header) → IsHeadFault b d side e → ¬ IsHead b d side h
no_head_lem b d side _ k (no_header e fault) head = no_header_lem b e k (header_sector d side) fault head.bytes
no_head_lem b d side _ k (misplaced h e bytes fault) head =
    let same = header_is_one_lem b k h (header_sector d side) head.bytes bytes in
    place_fault b side (length d) h e fault (subst (λ (x : Header). IsPlaced b side (length d) x) same head.placed)

-- a side with a fault has no copy
pub no_copy_lem : (b : ℕ) (d : Sectors) (side : Side) (e : CopyError) → IsCopyFault b d side e → ¬ HasCopy b d side
no_copy_lem b d side _ (no_head e fault) has = no_head_lem b d side e has.1.head fault has.1.stands.is_head
no_copy_lem b d side _ (other_crc h head other) has =
    let same = head_is_one_lem b d side has.1.head h has.1.stands.is_head head in
    other (subst (λ (x : Header). HasArrayCrc b d x) same has.1.stands.crc)

-- a side has one copy at most
pub copy_is_one_lem : (b : ℕ) (d : Sectors) (side : Side) (t u : Table) → Copy b d side t → Copy b d side u → t ≡ u
copy_is_one_lem b d side t u x y =
    let p = x.stands in
    let q = y.stands in
    let same : x.head ≡ y.head = head_is_one_lem b d side x.head y.head p.is_head q.is_head in
    let entries =
    entries_are_one_lem t.entries u.entries (array_of b d y.head)
    (subst (λ (h : Header). AreEntries t.entries (array_of b d h)) same p.entries) q.entries in
    let disk : t.disk ≡ u.disk = p.disk ∙ ap (λ (h : Header). h.disk) same ∙ sym q.disk in
    let first : t.first ≡ u.first = p.first ∙ ap (λ (h : Header). h.first) same ∙ sym q.first in
    let last : t.last ≡ u.last = p.last ∙ ap (λ (h : Header). h.last) same ∙ sym q.last in
    λ i. record { disk = disk i; first = first i; last = last i; entries = entries i }

-- what decides a side once its header stands
pub side_reads_head_lem : (b : ℕ) (d : Sectors) (side : Side) (h : Header) → IsHead b d side h
    → (s : ℕ) → SideReads b d side s ↔ ((s ≡ header_place side (length d)) ⊎ InArray b h s)
side_reads_head_lem b d side h head s = (
  λ r. elim r [
    | inl here ↦ inl here
    | inr within ↦ inr (subst (λ (k : Header). InArray b k s) (head_is_one_lem b d side within.0 h within.1 head) within.2)
  ],
  λ r. elim r [ inl here ↦ inl here | inr within ↦ inr (h, head, within) ],
)

-- and where it doesn't
pub side_reads_fault_lem : (b : ℕ) (d : Sectors) (side : Side) (e : CopyError) → IsHeadFault b d side e
    → (s : ℕ) → SideReads b d side s ↔ (s ≡ header_place side (length d))
side_reads_fault_lem b d side e fault s =
    (λ r. elim r [ inl here ↦ here | inr within ↦ absurd (no_head_lem b d side e within.0 fault within.1) ], λ here. inl here)

bytes_same : (c d : Sectors) (at n : ℕ) → ((s : ℕ) → at ≤ s → s < at + n → sector c s ≡ sector d s) → bytes_from c at n ≡ bytes_from d at n
unfolding bytes_from
bytes_same c d at zero same = refl
bytes_same c d at (suc n) same =
    let front = bytes_same c d at n (λ s low high. same s low (omega arith)) in
    let last = same (at + n) (omega arith) (omega arith) in
    rw (front, last) refl

-- two disks agree on what decides a side
record SideAgrees (b : ℕ) (side : Side) (c d : Sectors) : Type 0 where
  count : length c ≡ length d
  header : header_sector c side ≡ header_sector d side
  array : (h : Header) → IsHead b d side h → array_of b c h ≡ array_of b d h

head_same : (b : ℕ) (c d : Sectors) (side : Side) (h : Header) → length c ≡ length d → header_sector c side ≡ header_sector d side
    → IsHead b d side h → IsHead b c side h
head_same b c d side h count header head = record {
  bytes = subst (λ (x : List ℕ). HeaderBytes b h x) (sym header) head.bytes;
  placed = subst (λ (n : ℕ). IsPlaced b side n h) (sym count) head.placed;
}

turned : (b : ℕ) (c d : Sectors) (side : Side) → SideAgrees b side c d → SideAgrees b side d c
turned b c d side agrees = record {
  count = sym agrees.count;
  header = sym agrees.header;
  array = λ h head. sym (agrees.array h (head_same b d c side h (sym agrees.count) (sym agrees.header) head));
}

table_same : (b : ℕ) (c d : Sectors) (side : Side) (h : Header) (t : Table) → SideAgrees b side c d → CopyWith b d side h t
    → CopyWith b c side h t
table_same b c d side h t agrees copy =
    let same = sym (agrees.array h copy.is_head) in
    record {
      is_head = head_same b c d side h agrees.count agrees.header copy.is_head;
      crc = subst (λ (x : List ℕ). h.array_crc ≡ crc_of x) same copy.crc;
      disk = copy.disk;
      first = copy.first;
      last = copy.last;
      count = copy.count;
      entries = subst (λ (x : List ℕ). AreEntries t.entries x) same copy.entries;
    }

copy_same : (b : ℕ) (c d : Sectors) (side : Side) (t : Table) → SideAgrees b side c d → Copy b d side t → Copy b c side t
copy_same b c d side t agrees copy = record {
  room = rw agrees.count copy.room;
  head = copy.head;
  stands = table_same b c d side copy.head t agrees copy.stands;
}

head_fault_same : (b : ℕ) (c d : Sectors) (side : Side) (e : CopyError) → length c ≡ length d
    → header_sector c side ≡ header_sector d side → IsHeadFault b d side e → IsHeadFault b c side e
head_fault_same b c d side _ count header (no_header e fault) = no_header e (subst (λ (x : List ℕ). IsHeaderFault b e x) (sym header) fault)
head_fault_same b c d side _ count header (misplaced h e bytes fault) =
    misplaced h e (subst (λ (x : List ℕ). HeaderBytes b h x) (sym header) bytes)
    (subst (λ (n : ℕ). IsPlaceFault b side n h e) (sym count) fault)

fault_same : (b : ℕ) (c d : Sectors) (side : Side) (e : CopyError) → SideAgrees b side c d → IsCopyFault b d side e → IsCopyFault b c side e
fault_same b c d side _ agrees (no_head e fault) = no_head e (head_fault_same b c d side e agrees.count agrees.header fault)
fault_same b c d side _ agrees (other_crc h head other) =
    other_crc h (head_same b c d side h agrees.count agrees.header head) (λ crc. other (crc ∙ ap crc_of (agrees.array h head)))

side_reads_same : (b : ℕ) (c d : Sectors) (side : Side) (s : ℕ) → SideAgrees b side c d → SideReads b d side s → SideReads b c side s
side_reads_same b c d side s agrees (inl here) = inl (here ∙ ap (header_place side) (sym agrees.count))
side_reads_same b c d side s agrees (inr within) =
    inr (within.0, head_same b c d side within.0 agrees.count agrees.header within.1, within.2)

side_agrees : (b : ℕ) (c d : Sectors) (side : Side) → Agrees (SideReads b d side) c d → SideAgrees b side c d
side_agrees b c d side agrees = record {
  count = agrees.count;
  header = ap (λ (n : ℕ). sector c (header_place side n)) agrees.count ∙ agrees.each (header_place side (length d)) (inl refl);
  array = λ h head. ap (take (h.count * 128)) (bytes_same c d h.array (counted b h.count)
      (λ s low high. agrees.each s (inr (h, head, (low, high)))));
}

-- a disk that agrees on the sectors that decide a side has the same there
pub side_reads_decide_lem : (b : ℕ) (side : Side) (c d : Sectors) → Agrees (SideReads b d side) c d → SameSide b side c d
side_reads_decide_lem b side c d agrees =
    let to = side_agrees b c d side agrees in
    let back = turned b c d side to in
    record {
      heads = λ h. (head_same b d c side h back.count back.header, head_same b c d side h to.count to.header);
      tables = λ h t. (table_same b d c side h t back, table_same b c d side h t to);
      copies = λ t. (copy_same b d c side t back, copy_same b c d side t to);
      faults = λ e. (fault_same b d c side e back, fault_same b c d side e to);
      reads = λ s. (side_reads_same b d c side s back, side_reads_same b c d side s to);
    }

-- every used entry of a copy has a type
pub copy_is_typed_lem : (b : ℕ) (d : Sectors) (side : Side) (t : Table) → Copy b d side t → AllTyped t.entries
copy_is_typed_lem b d side t copy k lt = typed (slice_index_or t.entries k None) _ (copy.stands.entries.each k lt) where
  typed : (e : Option Entry) (bytes : List ℕ) → EntryIs e bytes → IfSome e IsTyped
  typed None bytes is = tt
  typed (Some e) bytes is = λ zeros. is.used (is.fields.kind ∙ zeros)

-- a copy has from 1 to 128 entries
pub copy_count_lem : (b : ℕ) (d : Sectors) (side : Side) (t : Table) → Copy b d side t → (1 ≤ length t.entries) × (length t.entries ≤ 128)
copy_count_lem b d side t copy =
    let shape = copy.stands.is_head.placed.shape in
    (rw copy.stands.count shape.0, rw copy.stands.count shape.1)
