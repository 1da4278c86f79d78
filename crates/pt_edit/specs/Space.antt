-- Free sectors, and where a new partition is placed.
use Rattle.std.specs.Prelude.{◌≡◌, ◌≤◌, ◌⊎◌, ◌+◌, ℕ, List, Contains, Option, Some, None, ◌∷◌, ◌^◌, ◌&&◌, [], flat_map, nat_le, nat_lt}
use Rattle.std.specs.Prelude.{if◌then◌else◌, ◌<◌, ◌-◌, ◌*◌, ◌%◌, nat_eq, length, slice_index_or, Bool, not, filter, find, fold, ok_or}
use Rattle.std.specs.Prelude.{Result, Ok, Err}
use Rattle.std.specs.List.{list_any, range_with_len}
use Rattle.pt_edit.specs.declared.space.Run.{Run}
use Rattle.pt_edit.specs.declared.space.Lead.{Lead}
use Rattle.pt_edit.specs.declared.space.Lead.TheVariants as leads
use Rattle.pt_edit.specs.declared.space.Space.{Space}
use Rattle.pt_members.specs.declared.member.Member.{Member}
use Rattle.pt_words.specs.declared.word.End.{End}
use Rattle.pt_words.specs.declared.word.End.TheVariants.{Block, Length, At}
use Rattle.pt_words.specs.declared.error.Refusal.{Refusal}
use Rattle.pt_words.specs.declared.error.Refusal.TheVariants.{NoSpace, OutsideUsable, Overlap}

-- a refusal ends the steps of a word
infixl 10 ◌>>=◌
abbrev pub ◌>>=◌ : {A B : Type 0} → Result A Refusal → (A → Result B Refusal) → Result B Refusal
Err r >>= f = Err r
Ok x >>= f = f x

-- ## The sectors where a partition may be placed: usable ones, taken ones, free ones, and the blocks of the free ones.

-- a space, without where its lists lie in memory
pub record Area : Type 0 where
  pub low : ℕ
  pub high : ℕ
  pub taken : List Run
  -- where an extended boot record has to stand before a partition: the sectors that hold an empty one
  pub empties : Option (List ℕ)

abbrev pub empties_of : Lead → Option (List ℕ)
empties_of leads.None = None
empties_of (leads.Record sectors) = Some sectors.items

abbrev pub area_of : Space → Area
area_of s = record { low = s.low; high = s.high; taken = s.taken.items; empties = empties_of s.lead }

abbrev pub RunHolds : Run → ℕ → Type 0
RunHolds r k = (r.first ≤ k) × (k ≤ r.last)

abbrev pub IsUsable : Area → ℕ → Type 0
IsUsable a k = (a.low ≤ k) × (k ≤ a.high)

-- the sector is in one of the runs
abbrev pub IsInRuns : List Run → ℕ → Type 0
IsInRuns runs k = (r : Run) × Contains runs r × RunHolds r k

abbrev pub IsTaken : Area → ℕ → Type 0
IsTaken a k = IsInRuns a.taken k

abbrev pub IsFree : Area → ℕ → Type 0
IsFree a k = IsUsable a k × (¬ IsTaken a k)

-- free sectors with none before or after them
pub record IsBlock (a : Area) (b : Run) : Type 0 where
  pub some : b.first ≤ b.last
  pub free : (k : ℕ) → RunHolds b k → IsFree a k
  pub before : (k : ℕ) → k + 1 ≡ b.first → ¬ IsFree a k
  pub after : ¬ IsFree a (b.last + 1)

-- all blocks, each behind the one before it
pub record AreBlocks (a : Area) (blocks : List Run) : Type 0 where
  pub each : (b : Run) → Contains blocks b → IsBlock a b
  pub all : (b : Run) → IsBlock a b → Contains blocks b
  pub ascending : (i j : ℕ) (d : Run) → i < j → j < length blocks → (slice_index_or blocks i d).last < (slice_index_or blocks j d).first

-- ## The same, computed.

-- whether the run has the sector
abbrev pub holds : ℕ → Run → Bool
holds k r = nat_le r.first k && nat_le k r.last

-- whether one of them has it
abbrev pub is_in : List Run → ℕ → Bool
is_in runs k = list_any (holds k) runs

abbrev pub is_usable : Area → ℕ → Bool
is_usable a k = nat_le a.low k && nat_le k a.high

-- the usable sectors that aren't taken, in ascending order
abbrev pub free_sectors : Area → List ℕ
free_sectors a = filter (λ k. not (is_in a.taken k)) (range_with_len a.low (a.high + 1 - a.low))

-- runs with a sector before them: the first run begins with it, where that comes right behind
abbrev pub in_front : ℕ → List Run → List Run
in_front k [] = record { first = k; last = k } ∷ []
in_front k (r ∷ rs) = if nat_eq (k + 1) r.first then record { first = k; last = r.last } ∷ rs else record { first = k; last = k } ∷ r ∷ rs

-- ascending sectors as runs, each as long as can be
unfoldable pub grouped : List ℕ → List Run
grouped [] = []
grouped (k ∷ ks) = in_front k (grouped ks)

-- all blocks, each behind the one before it; a law says that they are
unfoldable pub blocks_of : Area → List Run
blocks_of a = grouped (free_sectors a)

-- ## Sectors for a partition and what stands before it.

-- where an extended boot record may stand
abbrev pub TakesRecord : Area → List ℕ → ℕ → Type 0
TakesRecord a empties k = IsUsable a k × ((¬ IsTaken a k) ⊎ Contains empties k)

-- the sector before a partition's first, where it has to hold an extended boot record
abbrev pub HasLead : Area → Option (List ℕ) → ℕ → Type 0
HasLead a None first = Unit {0}
HasLead a (Some empties) first = (k : ℕ) × (k + 1 ≡ first) × TakesRecord a empties k

-- sectors for a partition and the record that leads it
pub record IsFreeRun (a : Area) (r : Run) : Type 0 where
  pub some : r.first ≤ r.last
  pub free : (k : ℕ) → RunHolds r k → IsFree a k
  pub leads : HasLead a a.empties r.first

-- ## The sectors that the partitions in a list of places take.
--
-- Which sectors a member has doesn't depend on the size of the disk's sectors. So where a list of members needs one, 512
-- stands for each.

-- the sectors of what stands in a place, where they exist
abbrev pub run_of : Option Member → List Run
run_of None = []
run_of (Some m) = if nat_le m.first m.last && nat_lt m.last (2 ^ 63) then record { first = m.first; last = m.last } ∷ [] else []

abbrev pub taken_by : List (Option Member) → List Run
taken_by places = flat_map run_of places

-- the sectors of what stands in a place, where there are some: the records of sector 0 take them wherever they lie
abbrev pub span_of : Option Member → List Run
span_of None = []
span_of (Some m) = if nat_le m.first m.last then record { first = m.first; last = m.last } ∷ [] else []

abbrev pub spanned_by : List (Option Member) → List Run
spanned_by places = flat_map span_of places

-- ## Where a partition is placed, or why it isn't.

-- the least multiple of an alignment that isn't below a sector, as a law says; with alignment 0 the sector itself
abbrev pub rounded_up : ℕ → ℕ → ℕ
rounded_up alignment k =
    if nat_eq alignment 0 then k else if nat_eq (k % alignment) 0 then k else k + (alignment - k % alignment)

-- the least multiple of an alignment that isn't below a sector
pub record IsRoundedUp (alignment k m : ℕ) : Type 0 where
  pub multiple : (q : ℕ) × (m ≡ q * alignment)
  pub above : k ≤ m
  pub least : (q : ℕ) → k ≤ q * alignment → m ≤ q * alignment

-- the sectors that a partition leaves to what stands before it
abbrev pub lead_size : Option (List ℕ) → ℕ
lead_size None = 0
lead_size (Some empties) = 1

-- where a partition starts in a block
abbrev pub start_of : Area → ℕ → Run → ℕ
start_of a alignment b = rounded_up alignment (b.first + lead_size a.empties)

-- the block's sectors from there on, where there are some
abbrev pub part_of : Area → ℕ → Run → Option Run
part_of a alignment b =
    if nat_le (start_of a alignment b) b.last then Some (record { first = start_of a alignment b; last = b.last }) else None

-- the longer of two, the first of equal ones
abbrev pub longer_of : Option Run → Option Run → Option Run
longer_of best None = best
longer_of None (Some r) = Some r
longer_of (Some b) (Some r) = if nat_lt (b.last - b.first) (r.last - r.first) then Some r else Some b

-- the longest of these blocks from there on, the lowest of equal ones
abbrev pub longest : Area → ℕ → List Run → Option Run
longest a alignment blocks = fold (λ best b. longer_of best (part_of a alignment b)) None blocks

-- sectors whose first one has room before it: in the sector there an extended boot record may stand, where one has to
abbrev pub led : Area → Option (List ℕ) → Run → Result Run Refusal
led a None part = Ok part
led a (Some empties) part =
    if nat_le part.first a.low then Err OutsideUsable
    else if is_in a.taken (part.first - 1) && not (list_any (nat_eq (part.first - 1)) empties) then Err Overlap
    else Ok part

-- from a sector on, to the end of the block that has it: no block has a taken one
unfoldable pub started_at : Area → ℕ → Result Run Refusal
started_at a first = do
  block ← if is_usable a first then ok_or (find (holds first) (blocks_of a)) Overlap else Err OutsideUsable
  led a a.empties (record { first = first; last = block.last })

-- the sectors from a partition's first one on, for the start that a word asks for: with 0 in the largest block
unfoldable pub started : Area → ℕ → ℕ → Result Run Refusal
started a alignment start =
    if nat_eq start 0 then ok_or (longest a alignment (blocks_of a)) NoSpace else started_at a (rounded_up alignment start)

-- the sector after a partition's last one, among the sectors from its first one on
abbrev pub past_end : Run → End → ℕ
past_end part Block = part.last + 1
past_end part (Length k) = part.first + k
past_end part (At e) = e + 1

-- those that end before a sector, if that lies among them
abbrev pub ended : ℕ → Run → ℕ → Result Run Refusal
ended high part past =
    if nat_le past part.first then Err NoSpace
    else if nat_lt (high + 1) past then Err OutsideUsable
    else if nat_lt (part.last + 1) past then Err Overlap
    else Ok (record { first = part.first; last = past - 1 })

-- where a partition is placed, or the first reason why it isn't: of its start, and then of its end
unfoldable pub placed : Area → ℕ → ℕ → End → Result Run Refusal
placed a alignment start end = do
  part ← started a alignment start
  ended a.high part (past_end part end)

abbrev pub Placed : Area → ℕ → ℕ → End → Run → Type 0
Placed a alignment start end r = placed a alignment start end ≡ Ok r

abbrev pub NotPlaced : Area → ℕ → ℕ → End → Refusal → Type 0
NotPlaced a alignment start end r = placed a alignment start end ≡ Err r

-- ## Lists of runs with the same sectors place alike.

-- a sector is in both or in none
pub record SameSectors (xs ys : List Run) : Type 0 where
  pub there : (k : ℕ) → IsInRuns xs k → IsInRuns ys k
  pub back : (k : ℕ) → IsInRuns ys k → IsInRuns xs k

-- the area with these runs taken
abbrev pub with_taken : Area → List Run → Area
with_taken a ys = record { low = a.low; high = a.high; taken = ys; empties = a.empties }
