-- A reader of the primary copy alone: which sectors decide what it finds, that it finds one table, and headers that lead it to one.
use Rattle.std.proofs.Common.{◌≡◌, ◌∙◌, ◌⊎◌, inl, inr, ⊎_elim, ℕ, zero, suc, ◌+◌, ◌-◌, ◌*◌, ◌/◌, ◌%◌, ◌<◌, ◌≤◌, List, length, take, refl}
use Rattle.std.proofs.Common.{sym, ap, subst}
use Rattle.std.proofs.Common.{arith, Option, Some, None}
use Rattle.std.proofs.lemmas.Bool.{cases_lt}
use Rattle.std.proofs.Math.Nat.{div-le_of_le-mul, div-zero, div-add-mod}
use Rattle.pt_sector.specs.Sectors.{Sectors, sector, Agrees, IsSectorSize, Writes, Puts, written}
use Rattle.pt_sector.proofs.Written.{agrees_written}
use Rattle.pt_gpt.specs.Copies.{array_len, array_of, AreEntries, bytes_from, Copy, CopyWith, counted, HasRange, HasRoom}
use Rattle.pt_gpt.specs.Copies.{HeaderBytes, InArray}
use Rattle.pt_gpt.specs.declared.header.Header.{Header}
use Rattle.pt_gpt.specs.declared.table.Side.TheVariants.{Primary, Backup}
use Rattle.pt_gpt.specs.declared.table.Table.{Table}
use Rattle.pt_gpt.proofs.Terms.{entries_are_one_lem, header_is_one_lem}
use Rattle.pt_check.proofs.Walk.{Stays}
use Rattle.pt_cases.specs.Kept.{bridge_of}
use Rattle.pt_cases.specs.Writes.{one_write, Protects}
use Rattle.pt_cases.proofs.Frames.{one_is}
use Rattle.pt_plan.specs.Readers.{Finds, FollowsPrimary, IsFollowed}

-- ## Which sectors decide what it finds.

-- sector 1, and where a header stands there that it follows, the counted sectors of the array
abbrev pub FollowReads : ℕ → Sectors → ℕ → Type 0
FollowReads b c s = (s ≡ 1) ⊎ ((h : Header) × IsFollowed b c h × InArray b h s)

bytes_same : (c d : Sectors) (at n : ℕ) → ((s : ℕ) → at ≤ s → s < at + n → sector c s ≡ sector d s) → bytes_from c at n ≡ bytes_from d at n
unfolding bytes_from
bytes_same c d at zero same = refl
bytes_same c d at (suc n) same =
    let front = bytes_same c d at n (λ s low high. same s low (omega arith)) in
    let last = same (at + n) (omega arith) (omega arith) in
    rw (front, last) refl

-- a disk that agrees on these has the same table found
pub follow_reads_decide : (b : ℕ) (c x : Sectors) → Agrees (FollowReads b x) c x → (o : Option Table) → Finds b x o → Finds b c o
follow_reads_decide b c x agrees None finds = finds
follow_reads_decide b c x agrees (Some t) finds =
    let h = finds.head in
    let is = finds.followed in
    let array : array_of b x h ≡ array_of b c h = sym (ap (take (h.count * 128)) (bytes_same c x h.array (counted b h.count)
    (λ s low high. agrees.each s (inr (h, is, (low, high)))))) in
    record {
      room = subst (HasRoom b) (sym agrees.count) finds.room;
      head = h;
      followed = record {
        bytes = subst (λ (v : List ℕ). HeaderBytes b h v) (sym (agrees.each 1 (inl refl))) is.bytes;
        my = is.my;
        shape = is.shape;
        range = subst (λ (n : ℕ). HasRange b n h) (sym agrees.count) is.range;
        within = subst (λ (n : ℕ). h.array + counted b h.count ≤ n) (sym agrees.count) is.within;
      };
      crc = rw array at finds.crc;
      disk = finds.disk;
      first = finds.first;
      last = finds.last;
      count = finds.count;
      entries = subst (λ (v : List ℕ). AreEntries t.entries v) array finds.entries;
    }

-- so writes that miss them change nothing of it
pub follow_stays : (b : ℕ) (x : Sectors) (ws : Writes) (o : Option Table) → ((s : ℕ) (v : List ℕ) → Puts ws s v → ¬ FollowReads b x s)
    → Finds b x o → Finds b (written ws x) o
follow_stays b x ws o clear = follow_reads_decide b (written ws x) x
    (agrees_written (FollowReads b x) x ws (λ s v reads puts. clear s v puts reads)) o

pub counted_most : (b count : ℕ) → IsSectorSize b → count ≤ 128 → counted b count ≤ array_len b
counted_most b count (inl e) most = rw e (omega (arith, most))
counted_most b count (inr e) most = rw e (omega (arith, most))

-- where a header stands in sector 1, they are that one and those of a whole array where it leads
pub follow_within : (b : ℕ) (c : Sectors) (h : Header) (s : ℕ) → IsSectorSize b → HeaderBytes b h (sector c 1) → FollowReads b c s
    → (s ≡ 1) ⊎ ((h.array ≤ s) × (s < h.array + array_len b))
follow_within b c h s size bytes (inl is) = inl is
follow_within b c h s size bytes (inr (k, is, inside)) =
    let same : k ≡ h = header_is_one_lem b k h (sector c 1) is.bytes bytes in
    let at : k.array ≡ h.array = ap (λ (x : Header). x.array) same in
    let few = counted_most b k.count size is.shape.1 in
    inr (omega (arith, at, inside.0), omega (arith, at, inside.1, few))

-- ## It finds one table at most.

pub followed_is_one_lem : (b : ℕ) (d : Sectors) (t u : Table) → FollowsPrimary b d t → FollowsPrimary b d u → t ≡ u
followed_is_one_lem b d t u p q =
    let same : p.head ≡ q.head = header_is_one_lem b p.head q.head (sector d 1) p.followed.bytes q.followed.bytes in
    let entries = entries_are_one_lem t.entries u.entries (array_of b d q.head)
    (subst (λ (h : Header). AreEntries t.entries (array_of b d h)) same p.entries) q.entries in
    let disk : t.disk ≡ u.disk = p.disk ∙ ap (λ (h : Header). h.disk) same ∙ sym q.disk in
    let first : t.first ≡ u.first = p.first ∙ ap (λ (h : Header). h.first) same ∙ sym q.first in
    let last : t.last ≡ u.last = p.last ∙ ap (λ (h : Header). h.last) same ∙ sym q.last in
    λ i. record { disk = disk i; first = first i; last = last i; entries = entries i }

pub finds_one : (b : ℕ) (d : Sectors) (o p : Option Table) → Finds b d o → Finds b d p → o ≡ p
finds_one b d None p is other = absurd is
finds_one b d (Some t) None is other = absurd other
finds_one b d (Some t) (Some u) is other = ap Some (followed_is_one_lem b d t u is other)

-- ## Headers that lead it to a table.

-- whatever a sector's size, so many entries take two sectors more than a whole array at most
counted_near : (b count : ℕ) → count ≤ 128 → counted b count ≤ array_len b + 2
counted_near b count most = by_size (cases_lt b 1)
  where
    by_size : (b < 1) ⊎ (1 ≤ b) → counted b count ≤ array_len b + 2
    by_size (inl none) = let is : b ≡ 0 = omega (arith, none) in rw is (omega (arith, div-zero (count * 128 + (0 - 1))))
    by_size (inr some) =
        let whole : b * (16384 / b) + 16384 % b ≡ 16384 = div-add-mod 16384 b in
        let part : 16384 % b < b = omega (arith, some) in
        let le : count * 128 + (b - 1) ≤ b * (16384 / b + 2) = omega (arith, most, whole, part) in
        div-le_of_le-mul b le

-- a primary copy
pub copy_is_followed : (b : ℕ) (d : Sectors) (t : Table) → Copy b d Primary t → FollowsPrimary b d t
copy_is_followed b d t copy =
    let h = copy.head in
    let placed = copy.stands.is_head.placed in
    let at : h.array ≡ 2 = placed.place in
    let few = counted_near b h.count placed.shape.1 in
    let room = copy.room in
    record {
      room = copy.room;
      head = h;
      followed = record {
        bytes = copy.stands.is_head.bytes;
        my = placed.my;
        shape = placed.shape;
        range = placed.range;
        within = omega (arith, at, few, room);
      };
      crc = copy.stands.crc;
      disk = copy.stands.disk;
      first = copy.stands.first;
      last = copy.stands.last;
      count = copy.stands.count;
      entries = copy.stands.entries;
    }

-- the header that leads to the backup's array
pub bridge_is_followed : (b n : ℕ) (c : Sectors) (h : Header) (t : Table) → IsSectorSize b → HasRoom b n → length c ≡ n
    → CopyWith b c Backup h t → HeaderBytes b (bridge_of n h) (sector c 1) → FollowsPrimary b c t
bridge_is_followed b n c h t size room count copy bytes =
    let placed = copy.is_head.placed in
    let at : h.array ≡ length c - (array_len b + 1) = placed.place in
    let few = counted_most b h.count size placed.shape.1 in
    record {
      room = subst (HasRoom b) (sym count) room;
      head = bridge_of n h;
      followed = record {
        bytes = bytes;
        my = refl;
        shape = placed.shape;
        range = placed.range;
        within = omega (arith, at, few, room, count);
      };
      crc = copy.crc;
      disk = copy.disk;
      first = copy.first;
      last = copy.last;
      count = copy.count;
      entries = copy.entries;
    }

-- with the primary copy written, sector 0 decides nothing of it
pub last_follows : (b n : ℕ) (c : Sectors) (under : List ℕ) (last : List Writes) (t : Table) → IsSectorSize b → Copy b c Primary t
    → Protects n under last → Stays (Finds b) (FollowReads b) last c (Some t)
last_follows b n c under last t size copy (inl (already, none)) =
    subst (λ (ps : List Writes). Stays (Finds b) (FollowReads b) ps c (Some t)) (sym none) (copy_is_followed b c t copy)
last_follows b n c under last t size copy (inr (not_yet, (new, from, one))) =
    subst (λ (ps : List Writes). Stays (Finds b) (FollowReads b) ps c (Some t)) (sym one)
    (copy_is_followed b c t copy, inl (omega arith), follow_stays b c (one_write 0 new) (Some t) clear (copy_is_followed b c t copy))
  where
    clear : (s : ℕ) (x : List ℕ) → Puts (one_write 0 new) s x → ¬ FollowReads b c s
    clear s x puts reads =
        let at : copy.head.array ≡ 2 = copy.stands.is_head.placed.place in
        let zero_is = one_is 0 s new x puts in
        ⊎_elim (λ is. omega (arith, is, zero_is)) (λ a. omega (arith, a.0, at, zero_is))
        (follow_within b c copy.head s size copy.stands.is_head.bytes reads)
