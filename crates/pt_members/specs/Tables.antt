-- Which sectors are tables of a layout, and who owns a sector.
use Rattle.std.specs.Prelude.{◌≡◌, ◌<◌, ◌≤◌, ◌⊎◌, ◌+◌, ℕ, Option, Some, None, length, ◌↔◌, List, Contains, if◌then◌else◌, nat_lt}
use Rattle.pt_mbr.specs.Chain.{StandsAt}
use Rattle.pt_gpt.specs.Copies.{array_len}
use Rattle.pt_members.specs.Members.{places_of, IsPlace, Exists, Holds}
use Rattle.pt_members.specs.Rows.{IsMember}
use Rattle.pt_members.specs.declared.layout.Layout.{Layout}
use Rattle.pt_members.specs.declared.layout.Body.{Body}
use Rattle.pt_members.specs.declared.layout.Body.TheVariants.{Mbr, Gpt}
use Rattle.pt_members.specs.declared.member.Kind.TheVariants.{Leaf}
use Rattle.pt_members.specs.declared.member.Member.{Member}
use Rattle.pt_path.specs.declared.path.Path.{Path}
use Rattle.pt_members.specs.declared.member.Kind.TheVariants as kind
use Rattle.pt_members.specs.declared.ownership.Owner.{Owner}
use Rattle.pt_members.specs.declared.ownership.Owner.TheVariants.{Partition, Table, Reserved, Free}
use Rattle.pt_path.specs.Paths.{rank}
use Rattle.pt_members.specs.declared.owned.Reach.{Reach}
use Rattle.std.specs.List.Sorted.{IsNonDecreasing}
use Rattle.pt_members.specs.declared.alone.Alone.{Alone}

-- ## The sectors that hold a layout's tables.

-- sector 0, a header and an array at the start of n sectors, and an array and a header at their end
abbrev pub IsGptTable : ℕ → ℕ → ℕ → Type 0
IsGptTable b n s = (s < array_len b + 2) ⊎ ((n ≤ s + (array_len b + 1)) × (s < n))

-- sector 0 and the extended boot records, or those of a GPT
abbrev pub IsBodyTable : ℕ → ℕ → Body → ℕ → Type 0
IsBodyTable b n (Mbr records chain) s = (s ≡ 0) ⊎ StandsAt s chain
IsBodyTable b n (Gpt t) s = IsGptTable b n s

-- those, and the label places
abbrev pub IsTable : ℕ → Layout → ℕ → Type 0
IsTable b o s = IsBodyTable b o.sectors o.body s ⊎ IsPlace (places_of b o.sectors o.body) s

-- a sector of the tables of what is denoted; nothing has none
abbrev pub TableOf : ℕ → Option Layout → ℕ → Type 0
TableOf b None s = ⊥
TableOf b (Some o) s = IsTable b o s

-- the sector is an extended boot record
abbrev pub IsEbr : Body → ℕ → Type 0
IsEbr (Mbr records chain) s = StandsAt s chain
IsEbr (Gpt t) s = ⊥

-- ## The sectors that partitions own.

-- the sector is one of a leaf's, whose sectors exist
pub record Owns (b : ℕ) (o : Layout) (s : ℕ) : Type 0 where
  pub leaf : Member
  pub is_member : IsMember b o leaf
  pub is_leaf : leaf.kind ≡ Leaf
  pub exists : Exists leaf
  pub holds : Holds leaf s

-- a sector that is owned in what is denoted; nothing owns none
abbrev pub OwnedOf : ℕ → Option Layout → ℕ → Type 0
OwnedOf b None s = ⊥
OwnedOf b (Some o) s = Owns b o s

-- ## The sectors of partitions, and the owners of sectors.

-- s is sector k, from 0 on, of the leaf of this path
pub record IsPlaceOf (b : ℕ) (o : Layout) (p : Path) (k s : ℕ) : Type 0 where
  pub leaf : Member
  pub is_member : IsMember b o leaf
  pub is_leaf : leaf.kind ≡ kind.Leaf
  pub path : leaf.path ≡ p
  pub exists : Exists leaf
  pub within : leaf.first + k ≤ leaf.last
  pub place : s ≡ leaf.first + k

-- the sector lies in a slice
pub record IsInSlice (b : ℕ) (o : Layout) (s : ℕ) : Type 0 where
  pub slice : Member
  pub is_member : IsMember b o slice
  pub is_slice : slice.kind ≡ kind.Slice
  pub exists : Exists slice
  pub holds : Holds slice s

-- the sector lies outside the usable ones of a GPT
abbrev pub IsUnusable : Body → ℕ → Type 0
IsUnusable (Mbr records chain) s = ⊥
IsUnusable (Gpt t) s = (s < t.first) ⊎ (t.last < s)

-- the sector lies in a slice, or outside the usable ones
abbrev pub IsReserved : ℕ → Layout → ℕ → Type 0
IsReserved b o s = IsInSlice b o s ⊎ IsUnusable o.body s

-- no leaf that has the sector comes before this path in path order
abbrev pub NoneBefore : ℕ → Layout → Path → ℕ → Type 0
NoneBefore b o p s = (q : Path) (k : ℕ) → IsPlaceOf b o q k s → rank p ≤ rank q

-- the first of these that holds, and of the partitions that have the sector the first
abbrev pub OwnerIs : ℕ → Layout → ℕ → Owner → Type 0
OwnerIs b o s (Partition p) = (k : ℕ) × IsPlaceOf b o p k s × NoneBefore b o p s
OwnerIs b o s Table = (¬ Owns b o s) × IsTable b o s
OwnerIs b o s Reserved = (¬ Owns b o s) × (¬ IsTable b o s) × IsReserved b o s
OwnerIs b o s Free = (¬ Owns b o s) × (¬ IsTable b o s) × (¬ IsReserved b o s)

-- ## A path names one partition.

-- an MBR has four records
abbrev pub HasFour : Body → Type 0
HasFour (Mbr records chain) = length records ≡ 4
HasFour (Gpt t) = Unit {0}

-- ## Sectors in a row that hold all that partitions own.

-- the sector is one of them
abbrev pub IsWithin : Reach → ℕ → Type 0
IsWithin r s = (r.low ≤ s) × (s ≤ r.high)

-- ## The sectors of tables that stand alone, listed in order.

-- the numbers ascend, and are just those of P
abbrev pub Lists : (ℕ → Type 0) → List ℕ → Type 0
Lists P xs = IsNonDecreasing xs × ((s : ℕ) → Contains xs s ↔ P s)

-- the extended boot records of a layout, and its label places
pub record AreAlone (b : ℕ) (o : Layout) (a : Alone) : Type 0 where
  pub ebrs : Lists (IsEbr o.body) a.ebrs.items
  pub places : Lists (IsPlace (places_of b o.sectors o.body)) a.places.items

-- ## The lowest of some sectors from one on.

-- the lowest sector of P from one on
abbrev pub NextSectorIs : (ℕ → Type 0) → ℕ → Option ℕ → Type 0
NextSectorIs P from None = (u : ℕ) → from ≤ u → ¬ P u
NextSectorIs P from (Some t) = P t × (from ≤ t) × ((u : ℕ) → from ≤ u → u < t → ¬ P u)

-- the lesser of two
abbrev pub least_of : Option ℕ → Option ℕ → Option ℕ
least_of None y = y
least_of (Some x) None = Some x
least_of (Some x) (Some y) = if nat_lt y x then Some y else Some x
