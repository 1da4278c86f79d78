-- Which sectors are known, and which are wanted besides.
use Rattle.std.specs.Prelude.{◌≡◌, ◌<◌, ◌++◌, ◌*◌, ◌^◌, ℕ, List, [], ◌∷◌, map, length, ◌/◌, if◌then◌else◌, nat_eq, Option, Some, None}
use Rattle.std.specs.Prelude.{◌≢◌, ◌⊎◌, ◌+◌, true, ◌≤◌, take, drop, All, Contains, slice_index_or}
use Rattle.std.specs.List.{range_with_len, IsDistinct}
use Rattle.std.specs.Simd.{first_chunks}
use Rattle.pt_sector.specs.Sectors.{Sectors, sector, IsSectorSize}
use Rattle.pt_sector.specs.Device.{Told, Moment, told_of}
use Rattle.pt_sector.specs.declared.disk.Fault.{Fault}
use Rattle.pt_sector.specs.declared.disk.Fault.TheVariants.{Read, Write, Flush}
use Rattle.pt_cases.specs.declared.primary.Primary.{Primary as Choice}
use Rattle.pt_cases.specs.declared.primary.Primary.TheVariants as choice
use Rattle.pt_replay.specs.declared.view.View.{View}
use Rattle.pt_replay.specs.Replies.{the_size, the_view, nothing, bad_argument, counting}
use Rattle.pt_replay.specs.declared.answers.Status.{Status}
use Rattle.pt_replay.specs.declared.answers.Status.TheVariants.{Usage, Memory, Done, No, Refused, NoTable, Device, Want, Room, WantOther}
use Rattle.pt_replay.specs.declared.answers.Reply.{Reply}
use Rattle.std.specs.BTreeMap.{BTreeMap, get}
use Rattle.std.specs.Ordering.{nat_cmp}
use Rattle.pt_replay.specs.declared.index.Index.{Index}
use Rattle.pt_members.specs.Members.{places_of, IsPlace}
use Rattle.pt_members.specs.declared.layout.Body.{Body}
use Rattle.pt_recover.specs.Denotes.{Denotes, BodyIs, BodyReads, Reads}

-- ## A disk of which some sectors are known.

-- what is known of sector s, where ns numbers the sectors ks
unfoldable pub known_of : List ℕ → Sectors → ℕ → Option (List ℕ)
known_of [] ks s = None
known_of (n ∷ ns) [] s = None
known_of (n ∷ ns) (k ∷ ks) s = if nat_eq n s then Some k else known_of ns ks s

abbrev pub known_or : Option (List ℕ) → List ℕ → List ℕ
known_or None v = v
known_or (Some k) v = k

-- the disk of so many sectors that holds what is known, and elsewhere what stands there
abbrev pub whole : ℕ → List ℕ → Sectors → Sectors → Sectors
whole count ns ks elsewhere = map (λ (s : ℕ). known_or (known_of ns ks s) (sector elsewhere s)) (range_with_len 0 count)

abbrev pub moments : Sectors → List ℕ → List Moment
moments d past = map (λ (x : ℕ). (d, [])) past

-- nothing of it is pending, and it stays as it is
abbrev pub replay_told : Sectors → List ℕ → Told
replay_told d past = told_of d d [] (moments d past)

-- the sectors of a view, in the order of its numbers
abbrev pub sectors_in : ℕ → View → Sectors
sectors_in b v = first_chunks b (length v.bytes.now / b) v.bytes.now

-- a view has a meaning: its bytes are whole sectors, as many as its numbers, of a disk of less than 2^64 bytes
pub record IsView (b : ℕ) (v : View) : Type 0 where
  pub size : IsSectorSize b
  pub whole : length v.bytes.now ≡ length v.numbers.now * b
  pub fits : v.sectors * b < 2 ^ 64
  pub primary : v.primary ≤ 2

-- what becomes of the primary copy in a plan, by a view's number and by what the call does of itself
abbrev pub choice_of : Choice → ℕ → Choice
choice_of of_itself number = if nat_eq number 1 then choice.Kept else if nat_eq number 2 then choice.Zeroed else of_itself

-- the disk of a view: its sectors, and elsewhere what stands there
abbrev pub disk_of : ℕ → View → Sectors → Sectors
disk_of b v elsewhere = whole v.sectors v.numbers.now (sectors_in b v) elsewhere

-- what a view holds of sector s
abbrev pub held : View → ℕ → Option (List ℕ)
held v s = known_of v.numbers.now (sectors_in v.sector_size v) s

-- a view is a part of the disk d: d has as many sectors as it says, and each that it holds
pub record IsPartOf (v : View) (d : Sectors) : Type 0 where
  pub as_many : length d ≡ v.sectors
  pub alike : (s : ℕ) (k : List ℕ) → s < v.sectors → held v s ≡ Some k → sector d s ≡ k

-- a disk, and another one
pub record Disks : Type 0 where
  pub disk : Sectors
  pub other : Sectors

-- of so many sectors, this one isn't known
pub record IsNew (count : ℕ) (ns : List ℕ) (ks : Sectors) (s : ℕ) : Type 0 where
  pub within : s < count
  pub unknown : known_of ns ks s ≡ None

-- a sector of the disk that isn't in the view
abbrev pub IsWanted : ℕ → View → ℕ → Type 0
IsWanted b v s = IsNew v.sectors v.numbers.now (sectors_in b v) s

-- it is the fault of a read of a sector that isn't known
abbrev pub IsOfNew : ℕ → List ℕ → Sectors → Fault → Type 0
IsOfNew count ns ks (Read at) = IsNew count ns ks at.0
IsOfNew count ns ks (Write at) = ⊥
IsOfNew count ns ks Flush = ⊥

-- each of them is
unfoldable pub AreOfNew : ℕ → List ℕ → Sectors → List Fault → Type 0
AreOfNew count ns ks [] = Unit {0}
AreOfNew count ns ks (f ∷ fs) = IsOfNew count ns ks f × AreOfNew count ns ks fs

-- reads left the numbers and the sectors, and those that failed were of sectors that aren't known
pub record Asks (count : ℕ) (ns ns' : List ℕ) (ks ks' : Sectors) (old new : List Fault) : Type 0 where
  pub numbers : ns' ≡ ns
  pub sectors : ks' ≡ ks
  pub more : List Fault
  pub come : new ≡ old ++ more
  pub unknown : AreOfNew count ns ks more

-- ## Which argument of a call is reported where it has no meaning.

-- an argument is judged: where it has no meaning, this is reported; where it has one, the answer is what the rest says
abbrev pub Judged : Type 0 → (Reply → Type 0) → (Status → Reply → Type 0) → Status → Reply → Type 0
Judged meaning told rest s r = ((¬ meaning) × (s ≡ Usage) × told r) ⊎ (meaning × rest s r)

-- the reply tells the argument of this number, and what the caller's buffers must keep is so
abbrev pub Tells : ℕ → Type 0 → Reply → Type 0
Tells number stay r = (r ≡ bad_argument number) × stay

-- of a call that fills no buffers
abbrev pub NoBuffers : Type 0
NoBuffers = Unit {0}

-- the view is judged
abbrev pub OfView : ℕ → View → Type 0 → (Status → Reply → Type 0) → Status → Reply → Type 0
OfView b v stay = Judged (IsView b v) (Tells the_view stay)

-- the size of sectors is judged
abbrev pub OfSize : View → Type 0 → (Status → Reply → Type 0) → Status → Reply → Type 0
OfSize v stay = Judged (IsSectorSize v.sector_size) (Tells the_size stay)

-- memory was refused before all arguments were judged, or the rest is so
abbrev pub OrMemory : Type 0 → (Status → Reply → Type 0) → Status → Reply → Type 0
OrMemory stay rest s r = ((s ≡ Memory) × (r ≡ nothing) × stay) ⊎ rest s r

-- ## Where numbers stand in a list.

-- the first place of a number, where the places of the list begin with k
unfoldable pub place_from : ℕ → List ℕ → ℕ → Option ℕ
place_from k [] s = None
place_from k (n ∷ ns) s = if nat_eq n s then Some k else place_from (k + 1) ns s

-- the map leads from each number to its first place
abbrev pub LeadsTo : List ℕ → BTreeMap ℕ ℕ → Type 0
LeadsTo ns m = (s : ℕ) → get nat_cmp m s ≡ place_from 0 ns s

-- where the index is whole, it does
abbrev pub Leads : List ℕ → Index → Type 0
Leads ns i = i.whole ≡ true → LeadsTo ns i.places

-- ## All sectors that are known to be wanted, at once.

module _ (b count : ℕ) (ns : List ℕ) (ks d : Sectors) where
  -- one sector, on which the body of the disk rests: what else is wanted isn't known before it is
  abbrev pub IsForBody : List ℕ → Type 0
  IsForBody list = (s : ℕ) × (list ≡ s ∷ []) × BodyReads b d s

  -- the label places of the disk's body, each that isn't known
  abbrev pub HasPlaces : List ℕ → Type 0
  HasPlaces list =
      (y : Body) × BodyIs b d y × ((s : ℕ) → IsPlace (places_of b (length d) y) s → IsNew count ns ks s → Contains list s)

  -- none of these is known, each is one of those that recovery reads, none stands twice, and once the body is known each label place is
  -- there that isn't known
  pub record AreWanted (list : List ℕ) : Type 0 where
    pub each : All (λ s. IsNew count ns ks s × Reads b d s) list
    pub once : IsDistinct nat_eq list
    pub all : list ≢ [] → IsForBody list ⊎ HasPlaces list

  -- nothing is wanted: the disk denotes nothing, or all label places of its table are known
  abbrev pub IsSettled : Type 0
  IsSettled = Denotes b d None
      ⊎ ((y : Body) × BodyIs b d y × ((s : ℕ) → IsPlace (places_of b (length d) y) s → ¬ IsNew count ns ks s))

-- a list stands at the head of the buffer, the rest of which is as it was, and the reply has its first sector and counts it
pub record GivesSectors (list old new : List ℕ) (r : Reply) : Type 0 where
  pub some : 1 ≤ length list
  pub reply_is : r ≡ record (counting (length list) 0) { sector = slice_index_or list 0 0 }
  pub list_is : take (length list) new ≡ list
  pub rest_is : drop (length list) new ≡ drop (length list) old

-- the buffer has no room for the list, which the reply counts, and stays as it was
pub record LacksRoom (list old new : List ℕ) (r : Reply) : Type 0 where
  pub reply_is : r ≡ counting (length list) 0
  pub small : length old < length list
  pub stays : new ≡ old

-- sectors of the disk that are wanted and aren't in the view
abbrev pub Wanted : ℕ → View → Sectors → List ℕ → Type 0
Wanted b v d = AreWanted b v.sectors v.numbers.now (sectors_in b v) d

abbrev pub Settled : ℕ → View → Sectors → Type 0
Settled b v d = IsSettled b v.sectors v.numbers.now (sectors_in b v) d

-- sectors that are wanted stand in the buffer, or have no room there; or nothing is wanted
abbrev pub WantsAll : ℕ → View → Sectors → List ℕ → List ℕ → Status → Reply → Type 0
WantsAll b v d old new Done r = Settled b v d × (r ≡ nothing) × (new ≡ old)
WantsAll b v d old new No r = ⊥
WantsAll b v d old new Usage r = ⊥
WantsAll b v d old new Refused r = ⊥
WantsAll b v d old new NoTable r = ⊥
WantsAll b v d old new Device r = ⊥
WantsAll b v d old new Memory r = (r ≡ nothing) × (new ≡ old)
WantsAll b v d old new Want r = (list : List ℕ) × Wanted b v d list × GivesSectors list old new r
WantsAll b v d old new Room r = (list : List ℕ) × Wanted b v d list × LacksRoom list old new r
WantsAll b v d old new WantOther r = ⊥

-- the same, once the view is judged
abbrev pub WantedFor : ℕ → View → Sectors → List ℕ → List ℕ → Status → Reply → Type 0
WantedFor b v d old new = OfView b v (new ≡ old) (WantsAll b v d old new)
