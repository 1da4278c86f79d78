-- What a write of a sector does to a copy that is followed.
use Rattle.std.specs.Prelude.{◌≡◌, ◌≢◌, ◌<◌, ◌≤◌, ◌↔◌, ℕ, ◌+◌, ◌-◌, ◌*◌, List, ◌++◌, length, take, slice_index_or, slice_set}
use Rattle.std.specs.Prelude.{Option, Some, None, IsTrue, false}
use Rattle.std.proofs.Common.{sym, ap, ◌∙◌, subst, arith, inl, inr}
use Rattle.std.proofs.lemmas.Bool.{cases_eq}
use Rattle.std.proofs.lemmas.List.{get_or-set_same, get_or-set_other, length-set}
use Rattle.pt_sum.specs.Sums.{crc_of}
use Rattle.pt_sector.specs.Sectors.{Sectors, sector, IsSectorSize}
use Rattle.pt_gpt.specs.Copies.{HasRoom, counted, header_place, header_sector, array_place, HeaderBytes, IsPlaced, IsHead, bytes_from}
use Rattle.pt_gpt.specs.declared.header.Header.{Header}
use Rattle.pt_gpt.specs.declared.table.Side.{Side}
use Rattle.pt_gpt.specs.declared.table.Side.TheVariants.{Primary, Backup}
use Rattle.pt_gpt.specs.declared.table.Table.{Table}
use Rattle.pt_follow.specs.declared.copy.FollowedCopy.{FollowedCopy}
use Rattle.pt_follow.specs.Follow.{Follows, HeadIs, SectorHas, entries_at, part_at, sector_in}
use Rattle.pt_follow.specs.inner.Follow.{HeadOf, InArrayOf, IsShaped, WritesPart, entries_with, range_of}
use Rattle.pt_follow.proofs.Splits.{bytes_same, IsWhole, array_at, array_long, behind, parted, parted_with, behind_same, range_at}

-- a copy that is followed has the numbers of one
pub shaped : (b : ℕ) (d : Sectors) (side : Side) (t : Table) (f : FollowedCopy) → IsSectorSize b → Follows b d side t f → IsShaped b f
shaped b d side t f size is = (
  rw is.sectors is.room,
  (is.few, (ap (λ (x : List ℕ). length x) is.bytes ∙ array_long b d (array_place b side (length d)) f.known size is.whole, is.parts)),
)

-- ## The header.

-- the header that the bytes are stands where they stand
pub head_is : (b n : ℕ) (d : Sectors) (side : Side) (bytes : List ℕ) (o : Option Header) → HeadOf b n side bytes o → n ≡ length d
    → bytes ≡ header_sector d side → HeadIs b d side o
head_is b n d side bytes None none count at = λ h head.
    none h (subst (λ (x : List ℕ). HeaderBytes b h x) (sym at) head.bytes) (subst (λ (k : ℕ). IsPlaced b side k h) (sym count) head.placed)
head_is b n d side bytes (Some h) is count at = record {
  bytes = subst (λ (x : List ℕ). HeaderBytes b h x) at is.0;
  placed = subst (λ (k : ℕ). IsPlaced b side k h) count is.1;
}

head_over : (b : ℕ) (c d : Sectors) (side : Side) (h : Header) → length c ≡ length d → header_sector c side ≡ header_sector d side
    → IsHead b d side h → IsHead b c side h
head_over b c d side h count at head = record {
  bytes = subst (λ (x : List ℕ). HeaderBytes b h x) (sym at) head.bytes;
  placed = subst (λ (k : ℕ). IsPlaced b side k h) (sym count) head.placed;
}

-- a side whose header's sector is the same has the same header
pub head_kept : (b : ℕ) (c d : Sectors) (side : Side) (o : Option Header) → length c ≡ length d
    → header_sector c side ≡ header_sector d side → HeadIs b d side o → HeadIs b c side o
head_kept b c d side None count at none = λ h head. none h (head_over b d c side h (sym count) (sym at) head)
head_kept b c d side (Some h) count at head = head_over b c d side h count at head

-- the header doesn't stand in the array
pub not_header : (b : ℕ) (side : Side) (n count k : ℕ) → IsSectorSize b → HasRoom b n → count ≤ 128 → k < counted b count
    → array_place b side n + k ≢ header_place side n
not_header b Primary n count k size room most lt = omega arith
not_header b Backup n count k (inl e) room most lt =
    let r = rw e at room in let l = rw e at lt in rw e (omega (arith, r, l))
not_header b Backup n count k (inr e) room most lt =
    let r = rw e at room in let l = rw e at lt in rw e (omega (arith, r, l))

-- ## A write outside the array.

-- two disks have the same array
pub record SameArray (b : ℕ) (c d : Sectors) (side : Side) (n : ℕ) : Type 0 where
  pub count : length c ≡ length d
  pub each : (k : ℕ) → k < counted b n → sector c (array_place b side (length d) + k) ≡ sector d (array_place b side (length d) + k)

entries_same : (b : ℕ) (c d : Sectors) (side : Side) (n : ℕ) → SameArray b c d side n → entries_at b c side n ≡ entries_at b d side n
entries_same b c d side n same =
    ap (λ (m : ℕ). take (n * 128) (bytes_from c (array_place b side m) (counted b n))) same.count
    ∙ ap (λ (x : List ℕ). take (n * 128) x) (bytes_same c d (array_place b side (length d)) (counted b n) same.each)

-- and its sectors
sector_same : (b : ℕ) (c d : Sectors) (side : Side) (n k : ℕ) → SameArray b c d side n → k < counted b n
    → sector_in b c side k ≡ sector_in b d side k
sector_same b c d side n k same lt = ap (λ (m : ℕ). sector c (array_place b side m + k)) same.count ∙ same.each k lt

-- the copy with another header
abbrev pub with_head : FollowedCopy → Option Header → FollowedCopy
with_head f o = record f { head = o }

pub follows_on : (b : ℕ) (c d : Sectors) (side : Side) (t : Table) (f : FollowedCopy) (o : Option Header) → Follows b d side t f
    → SameArray b c d side f.known → HeadIs b c side o → Follows b c side t (with_head f o)
follows_on b c d side t f o is same head =
    let n = f.known in
    let at = λ (k : ℕ) (lt : k < counted b n). sector_same b c d side n k same lt in
    let bytes = entries_same b c d side n same in
    record {
      room = rw same.count is.room;
      sectors = is.sectors ∙ sym same.count;
      of_side = is.of_side;
      few = is.few;
      whole = λ k lt. ap (λ (x : List ℕ). length x) (at k lt) ∙ is.whole k lt;
      head = head;
      bytes = is.bytes ∙ sym bytes;
      sum = is.sum ∙ ap crc_of (sym bytes);
      parts = is.parts;
      sums = λ k lt. is.sums k lt ∙ ap (λ (x : List ℕ). crc_of (take (n * 128 - k * b) x)) (sym (at k lt));
      flags = is.flags;
      same = λ k lt.
          subst (λ (x : List ℕ). IsTrue (slice_index_or f.same.items k false) ↔ SectorHas b t.entries k x) (sym (at k lt)) (is.same k lt);
    }

-- ## A disk after a write.

pub other_sector : (d : Sectors) (a s : ℕ) (y : List ℕ) → s ≢ a → sector (slice_set d a y) s ≡ sector d s
other_sector d a s y other = get_or-set_other d a s y _ other

pub array_kept : (b : ℕ) (d : Sectors) (side : Side) (n a : ℕ) (y : List ℕ)
    → ((k : ℕ) → k < counted b n → array_place b side (length d) + k ≢ a) → SameArray b (slice_set d a y) d side n
array_kept b d side n a y outside = record {
  count = length-set d a y;
  each = λ k lt. other_sector d a (array_place b side (length d) + k) y (outside k lt);
}

-- a write of the header's sector
pub follows_header : (b : ℕ) (d : Sectors) (side : Side) (t : Table) (f : FollowedCopy) (o : Option Header) (a : ℕ) (y : List ℕ)
    → IsSectorSize b → Follows b d side t f → a < length d → a ≡ header_place f.side f.sectors → HeadOf b f.sectors f.side y o
    → Follows b (slice_set d a y) side t (with_head f o)
follows_header b d side t f o a y size is low at head =
    let c = slice_set d a y in
    let count : length c ≡ length d = length-set d a y in
    let place : a ≡ header_place side (length d) =
    at ∙ ap (λ (x : Side). header_place x f.sectors) is.of_side ∙ ap (λ (m : ℕ). header_place side m) is.sectors in
    let there : y ≡ header_sector c side =
    sym (get_or-set_same d a y _ low) ∙ ap (λ (m : ℕ). sector c m) (place ∙ ap (λ (m : ℕ). header_place side m) (sym count)) in
    let now = subst (λ (x : Side). HeadOf b f.sectors x y o) is.of_side head in
    follows_on b c d side t f o is
    (array_kept b d side f.known a y (λ k lt here. not_header b side (length d) f.known k size is.room is.few lt (here ∙ place)))
    (head_is b f.sectors c side y o now (is.sectors ∙ sym count) there)

-- a write of a sector that isn't of the copy
pub follows_outside : (b : ℕ) (d : Sectors) (side : Side) (t : Table) (f : FollowedCopy) (a : ℕ) (y : List ℕ)
    → Follows b d side t f → a ≢ header_place f.side f.sectors → ¬ InArrayOf b f a → Follows b (slice_set d a y) side t f
follows_outside b d side t f a y is other outside =
    let c = slice_set d a y in
    let n = length d in
    let count : length c ≡ n = length-set d a y in
    let header : header_place f.side f.sectors ≡ header_place side n =
    ap (λ (x : Side). header_place x f.sectors) is.of_side ∙ ap (λ (m : ℕ). header_place side m) is.sectors in
    let array : array_place b f.side f.sectors ≡ array_place b side n =
    ap (λ (x : Side). array_place b x f.sectors) is.of_side ∙ ap (λ (m : ℕ). array_place b side m) is.sectors in
    let there : header_sector c side ≡ header_sector d side =
    ap (λ (m : ℕ). sector c (header_place side m)) count
    ∙ other_sector d a (header_place side n) y (λ e. other (sym e ∙ sym header)) in
    follows_on b c d side t f f.head is
    (array_kept b d side f.known a y (λ k lt here. outside (omega (arith, array, here), omega (arith, array, here, lt))))
    (head_kept b c d side f.head count there is.head)

-- ## A write of a sector of the array.

-- what is known of so many entries
record FollowsKnown (b : ℕ) (d : Sectors) (side : Side) (t : Table) (c : FollowedCopy) (n : ℕ) : Type 0 where
  whole : (k : ℕ) → k < counted b n → length (sector_in b d side k) ≡ b
  bytes : c.bytes.items ≡ entries_at b d side n
  sum : c.sum ≡ crc_of (entries_at b d side n)
  parts : length c.sums.items ≡ counted b n
  sums : (k : ℕ) → k < counted b n → slice_index_or c.sums.items k 0 ≡ crc_of (part_at b d side n k)
  flags : length c.same.items ≡ counted b n
  same : (k : ℕ) → k < counted b n → IsTrue (slice_index_or c.same.items k false) ↔ SectorHas b t.entries k (sector_in b d side k)

module _ (b : ℕ) (d : Sectors) (side : Side) (t : Table) (old new : FollowedCopy) (k : ℕ) (y : List ℕ) (size : IsSectorSize b)
    (is : Follows b d side t old) (low : array_place b side (length d) + k < length d)
    (long : length y ≡ b) (lt : k < counted b old.known) (writes : WritesPart b t.entries k y old new) where
  abbrev n : ℕ
  n = old.known

  abbrev place : ℕ
  place = array_place b side (length d)

  abbrev c : Sectors
  c = slice_set d (place + k) y

  count_same : length c ≡ length d
  count_same = length-set d (place + k) y

  here : sector c (place + k) ≡ y
  here = get_or-set_same d (place + k) y _ low

  others : (i : ℕ) → i ≢ k → sector c (place + i) ≡ sector d (place + i)
  others i other = other_sector d (place + k) (place + i) y (λ e. other (omega (arith, e)))

  whole : IsWhole b c place n
  whole i within = elim (cases_eq i k) [
    | inl same ↦ rw same (ap (λ (s : List ℕ). length s) here ∙ long)
    | inr other ↦ ap (λ (s : List ℕ). length s) (others i other) ∙ is.whole i within
  ]

  -- the array's bytes on the new disk
  bytes_now : array_at b c place n ≡ bytes_from d place k ++ (take (n * 128 - k * b) y ++ behind b d place n k)
  bytes_now =
      parted b c place n k size whole lt
      ∙ ap (λ (z : List ℕ). z ++ (take (n * 128 - k * b) (sector c (place + k)) ++ behind b c place n k))
      (bytes_same c d place k (λ i before. others i (λ e. absurd (omega (arith, e, before)))))
      ∙ ap (λ (z : List ℕ). bytes_from d place k ++ (take (n * 128 - k * b) z ++ behind b c place n k)) here
      ∙ ap (λ (z : List ℕ). bytes_from d place k ++ (take (n * 128 - k * b) y ++ z)) (behind_same b c d place n k others)

  at_place : entries_at b c side n ≡ array_at b c place n
  at_place = ap (λ (m : ℕ). take (n * 128) (bytes_from c (array_place b side m) (counted b n))) count_same

  bytes_new : new.bytes.items ≡ entries_at b c side n
  bytes_new =
      writes.bytes ∙ ap (λ (z : List ℕ). entries_with b z k y) is.bytes ∙ parted_with b d place n k y size is.whole lt ∙ sym bytes_now
      ∙ sym at_place

  sum_now : new.sum ≡ crc_of (entries_at b c side n)
  sum_now =
      let before : slice_index_or old.sums.items k 0 ≡ crc_of (range_of b old.bytes.items k) =
      is.sums k lt ∙ ap crc_of (sym (ap (λ (x : List ℕ). range_of b x k) is.bytes ∙ range_at b d place n k size is.whole lt)) in
      writes.sum (is.sum ∙ ap crc_of (sym is.bytes)) before ∙ ap crc_of bytes_new

  -- sector i of the array, by its place on the disk as it was
  at_now : (i : ℕ) → sector_in b c side i ≡ sector c (place + i)
  at_now i = ap (λ (m : ℕ). sector c (array_place b side m + i)) count_same

  sums_now : (i : ℕ) → i < counted b n → slice_index_or new.sums.items i 0 ≡ crc_of (part_at b c side n i)
  sums_now i within =
      let sum : ℕ = crc_of (take (n * 128 - k * b) y) in
      let set = ap (λ (xs : List ℕ). slice_index_or xs i 0) writes.sums in
      let there = at_now i in
      rw there (set ∙ elim (cases_eq i k) as (λ _. slice_index_or (slice_set old.sums.items k sum) i 0
      ≡ crc_of (take (n * 128 - i * b) (sector c (place + i)))) [
        | inl same ↦
            let e = get_or-set_same old.sums.items k sum 0 (omega (arith, is.parts, lt)) in
            let h = here in
            rw (same, h) e
        | inr other ↦
            get_or-set_other old.sums.items k i sum 0 other ∙ is.sums i within
            ∙ ap (λ (x : List ℕ). crc_of (take (n * 128 - i * b) x)) (sym (others i other))
      ])

  flag_at : (i : ℕ) → i < counted b n → IsTrue (slice_index_or new.same.items i false) ↔ SectorHas b t.entries i (sector c (place + i))
  flag_at i within = elim (cases_eq i k) [
    | inl same ↦ let e = here in rw (same, e) (writes.here (omega (arith, is.flags, lt)))
    | inr other ↦
        let flag = writes.others i other in
        let there = others i other in
        rw (flag, there) (is.same i within)
  ]

  flags_now : (i : ℕ) → i < counted b n → IsTrue (slice_index_or new.same.items i false) ↔ SectorHas b t.entries i (sector_in b c side i)
  flags_now i within =
      subst (λ (x : List ℕ). IsTrue (slice_index_or new.same.items i false) ↔ SectorHas b t.entries i x) (sym (at_now i)) (flag_at i within)

  head_now : HeadIs b c side new.head
  head_now =
      let there : header_sector c side ≡ header_sector d side =
      ap (λ (m : ℕ). sector c (header_place side m)) count_same
      ∙ other_sector d (place + k) (header_place side (length d)) y (λ e.
      not_header b side (length d) n k size is.room is.few lt (sym e)) in
      subst (λ (o : Option Header). HeadIs b c side o) (sym writes.head) (head_kept b c d side old.head count_same there is.head)

  -- all of it, but for the number of entries, which is the same
  follows_known : FollowsKnown b c side t new n
  follows_known = record {
    whole = λ i within. ap (λ (x : List ℕ). length x) (at_now i) ∙ whole i within;
    bytes = bytes_new;
    sum = sum_now;
    parts = ap (λ (xs : List ℕ). length xs) writes.sums ∙ length-set old.sums.items k _ ∙ is.parts;
    sums = sums_now;
    flags = writes.long ∙ is.flags;
    same = flags_now;
  }

  pub follows_part : Follows b c side t new
  follows_part =
      let known = subst (λ (m : ℕ). FollowsKnown b c side t new m) (sym writes.known) follows_known in
      record {
        room = rw count_same is.room;
        sectors = writes.sectors ∙ is.sectors ∙ sym count_same;
        of_side = writes.side ∙ is.of_side;
        few = omega (arith, writes.known, is.few);
        whole = known.whole;
        head = head_now;
        bytes = known.bytes;
        sum = known.sum;
        parts = known.parts;
        sums = known.sums;
        flags = known.flags;
        same = known.same;
      }

-- a write of a sector of the array, by its place on the disk
pub follows_array : (b : ℕ) (d : Sectors) (side : Side) (t : Table) (old new : FollowedCopy) (a at : ℕ) (y : List ℕ) → IsSectorSize b
    → Follows b d side t old → a < length d → length y ≡ b → at ≡ array_place b old.side old.sectors
    → InArrayOf b old a → WritesPart b t.entries (a - at) y old new → Follows b (slice_set d a y) side t new
follows_array b d side t old new a at y size is low long start within writes =
    let place : array_place b old.side old.sectors ≡ array_place b side (length d) =
    ap (λ (z : Side). array_place b z old.sectors) is.of_side ∙ ap (λ (m : ℕ). array_place b side m) is.sectors in
    let here : at ≡ array_place b side (length d) = start ∙ place in
    let e : array_place b side (length d) + (a - at) ≡ a = omega (arith, here, start, within.0) in
    let lt : a - at < counted b old.known = omega (arith, start, within.0, within.1) in
    subst (λ (m : ℕ). Follows b (slice_set d m y) side t new) e
    (follows_part b d side t old new (a - at) y size is (rw e low) long lt writes)
