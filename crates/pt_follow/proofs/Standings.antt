-- How a followed copy stands to its table.
use Rattle.std.specs.Prelude.{◌≡◌, ◌≢◌, ◌<◌, ◌≤◌, ◌⊎◌, ◌↔◌, ℕ, ◌+◌, ◌/◌, List, length, Option, Some, None}
use Rattle.std.proofs.Common.{refl, sym, ap, ◌∙◌, subst, arith, inl, inr}
use Rattle.pt_sum.specs.Sums.{crc_of}
use Rattle.pt_sector.specs.Sectors.{Sectors, IsSectorSize}
use Rattle.pt_gpt.specs.Copies.{counted, header_place, array_place, IsHead, array_of, HasArrayCrc}
use Rattle.pt_gpt.specs.Copies.{SideReads, AreEntries}
use Rattle.pt_gpt.proofs.Terms.{head_is_one_lem, side_reads_head_lem}
use Rattle.pt_gpt.specs.declared.header.Header.{Header}
use Rattle.pt_gpt.specs.declared.table.Side.{Side}
use Rattle.pt_gpt.specs.declared.table.Table.{Table}
use Rattle.pt_follow.specs.declared.copy.FollowedCopy.{FollowedCopy}
use Rattle.pt_follow.specs.declared.standing.Standing.TheVariants.{Gives, LostHead, LostArray}
use Rattle.pt_follow.specs.Follow.{Follows, HeadIs, InCopy, StandingIs, entries_at}
use Rattle.pt_follow.specs.inner.Follow.{AreSet, IsOf}
use Rattle.pt_follow.proofs.Splits.{array_long, counted_more, in_array, sector_of_entry}

-- the side's header, where one stands
head_at : (b : ℕ) (d : Sectors) (side : Side) (t : Table) (c : FollowedCopy) (h : Header) → Follows b d side t c → c.head ≡ Some h
    → IsHead b d side h
head_at b d side t c h f is = subst (λ (o : Option Header). HeadIs b d side o) is f.head

-- it tells of the array that is followed
same_array : (b : ℕ) (d : Sectors) (side : Side) (n : ℕ) (h : Header) → IsHead b d side h → h.count ≡ n
    → array_of b d h ≡ entries_at b d side n
same_array b d side n h head count = rw (count, head.placed.place) refl

reads_array : (b : ℕ) (d : Sectors) (side : Side) (n : ℕ) (h : Header) → IsHead b d side h → h.count ≡ n
    → (s : ℕ) → SideReads b d side s ↔ InCopy b (length d) side n s
reads_array b d side n h head count s =
    let all = side_reads_head_lem b d side h head s in
    let place = head.placed.place in
    subst (λ (a : ℕ). SideReads b d side s ↔ ((s ≡ header_place side (length d)) ⊎ ((a ≤ s) × (s < a + counted b n)))) place
    (subst (λ (m : ℕ). SideReads b d side s ↔ ((s ≡ header_place side (length d)) ⊎ ((h.array ≤ s) × (s < h.array + counted b m)))) count
    all)

-- there is no header
pub lost_head : (b : ℕ) (d : Sectors) (side : Side) (t : Table) (c : FollowedCopy) → Follows b d side t c → c.head ≡ None
    → StandingIs b d side t LostHead
lost_head b d side t c f is =
    let none : (h : Header) → ¬ IsHead b d side h = subst (λ (o : Option Header). HeadIs b d side o) is f.head in (
      λ u copy. none copy.head copy.stands.is_head,
      λ s. (λ r. elim r [ inl here ↦ here | inr within ↦ absurd (none within.0 within.1) ], λ here. inl here),
    )

-- the sum of the entries that the header tells of
crc_is : (b : ℕ) (d : Sectors) (side : Side) (h : Header) (sum : ℕ) → IsHead b d side h → sum ≡ crc_of (entries_at b d side h.count)
    → sum ≡ crc_of (array_of b d h)
crc_is b d side h sum head is = is ∙ ap crc_of (sym (same_array b d side h.count h head refl))

-- its array has another CRC
pub lost_array : (b : ℕ) (d : Sectors) (side : Side) (t : Table) (c : FollowedCopy) (h : Header) (sum : ℕ) → Follows b d side t c
    → c.head ≡ Some h → sum ≡ crc_of (entries_at b d side h.count) → h.array_crc ≢ sum → StandingIs b d side t (LostArray h.count)
lost_array b d side t c h sum f is now other =
    let head = head_at b d side t c h f is in (
      λ u copy.
          let same = head_is_one_lem b d side copy.head h copy.stands.is_head head in
          let crc = subst (λ (k : Header). HasArrayCrc b d k) same copy.stands.crc in
          other (crc ∙ sym (crc_is b d side h sum head now)),
      reads_array b d side h.count h head refl,
    )

entries_are : (b : ℕ) (d : Sectors) (side : Side) (t : Table) (c : FollowedCopy) (h : Header) → IsSectorSize b → Follows b d side t c
    → IsHead b d side h → h.count ≤ c.known → h.count ≡ length t.entries → AreSet c.same.items (counted b h.count)
    → AreEntries t.entries (array_of b d h)
entries_are b d side t c h size f head known count flags =
    let n = length t.entries in
    let place = array_place b side (length d) in
    let within = counted_more b n c.known size (rw count at known) in
    let whole = λ (k : ℕ) (lt : k < counted b n). f.whole k (omega (arith, lt, within)) in
    let are : AreEntries t.entries (entries_at b d side n) = record {
      count = array_long b d place n size whole;
      each = λ j lt.
          let k = j / (b / 128) in
          let low = sector_of_entry b n j size lt in
          let has = (f.same k (omega (arith, low, within))).0 (flags k (rw count low)) in
          in_array b d place t.entries k size whole low has j lt refl;
    } in
    subst (λ (x : List ℕ). AreEntries t.entries x) (sym (same_array b d side n h head count)) are

-- it is a copy of the table
pub gives : (b : ℕ) (d : Sectors) (side : Side) (t : Table) (c : FollowedCopy) (h : Header) (sum : ℕ) → IsSectorSize b
    → Follows b d side t c → c.head ≡ Some h → h.count ≤ c.known → h.count ≡ length t.entries
    → sum ≡ crc_of (entries_at b d side h.count) → h.array_crc ≡ sum → IsOf h t → AreSet c.same.items (counted b h.count)
    → StandingIs b d side t Gives
gives b d side t c h sum size f is known count now same of_table flags =
    let head = head_at b d side t c h f is in (
      record {
        room = f.room;
        head = h;
        stands = record {
          is_head = head;
          crc = same ∙ crc_is b d side h sum head now;
          disk = sym of_table.0;
          first = sym of_table.1;
          last = sym of_table.2;
          count = sym count;
          entries = entries_are b d side t c h size f head known count flags;
        };
      },
      reads_array b d side (length t.entries) h head count,
    )
