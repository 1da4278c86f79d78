-- When a layout is sound.
use Rattle.std.specs.Prelude.{◌≡◌, ◌+◌, ◌<◌, ◌≤◌, ℕ, Bool, List, length, slice_index_or, sum_by, None, if◌then◌else◌, ◌&&◌, nat_lt}
use Rattle.std.specs.Prelude.{IsPermutation, not, ◌≢◌, ◌⊎◌, ◌++◌, ◌∷◌, [], zero, suc, Contains, Option, Some}
use Rattle.std.specs.List.Sorted.{IsStableByKey, IsNonDecreasingBy}
use Rattle.std.specs.List.{AllAdjacentBelow}
use Rattle.std.specs.Ordering.{nat_cmp}
use Rattle.pt_members.specs.declared.member.Member.{Member}
use Rattle.pt_members.specs.declared.member.Kind.TheVariants.{Leaf, Slice, Extended}
use Rattle.pt_layout.specs.declared.sound.overlap.Overlap.{Overlap}
use Rattle.pt_gpt.specs.declared.entry.Entry.{Entry}
use Rattle.pt_members.specs.declared.layout.Layout.{Layout}
use Rattle.pt_members.specs.declared.layout.Body.{Body}
use Rattle.pt_members.specs.declared.layout.Body.TheVariants.{Mbr, Gpt}
use Rattle.pt_path.specs.declared.path.Path.{Path}
use Rattle.pt_layout.specs.declared.sound.finding.Finding.{Finding}
use Rattle.pt_layout.specs.declared.sound.finding.Finding.TheVariants.{OutsideUsable, OnTable, SameGuid}
use Rattle.pt_layout.specs.declared.sound.finding.Finding.TheVariants as finding
use Rattle.pt_path.specs.Paths.{rank}
use Rattle.pt_members.specs.Members.{Exists, Holds, Group, groups_of}
use Rattle.pt_members.specs.Rows.{IsMember}
use Rattle.pt_members.specs.Tables.{IsTable, IsEbr}

-- ## Members that share sectors.

abbrev pub nobody : Member
nobody = record { path = record { number = 0; letter = None }; kind = Leaf; first = 0; last = 0 }

abbrev pub member_at : List Member → ℕ → Member
member_at members k = slice_index_or members k nobody

abbrev pub Meets : Member → Member → Type 0
Meets a b = (a.first ≤ b.last) × (b.first ≤ a.last)

abbrev pub holds : ℕ → Member → Bool
holds s m = not (nat_lt s m.first) && not (nat_lt m.last s)

-- how many of them hold a sector
abbrev pub holders : ℕ → List Member → ℕ
holders s members = sum_by (λ m. if holds s m then 1 else 0) members

-- no sector is in two of them
abbrev pub IsApart : List Member → Type 0
IsApart members = (s : ℕ) → holders s members ≤ 1

-- by first sector, those of one first sector in the order that they have
pub record InOrder (members sorted : List Member) : Type 0 where
  pub same : IsPermutation members sorted
  pub ascending : IsNonDecreasingBy (λ m. m.first) sorted
  pub stable : IsStableByKey (λ (m : Member). m.first) nat_cmp members sorted

-- member k + 1 meets the one before it, and none before it does
pub record IsFirstMeeting (members : List Member) (o : Overlap) : Type 0 where
  pub k : ℕ
  pub below : k + 1 < length members
  pub meets : Meets (member_at members k) (member_at members (k + 1))
  pub none_before : AllAdjacentBelow (λ x y. ¬ Meets x y) members (k + 1)
  pub before : o.before ≡ (member_at members k).path
  pub it : o.it ≡ (member_at members (k + 1)).path

pub record IsFirstOverlap (members : List Member) (o : Overlap) : Type 0 where
  pub sorted : List Member
  pub order : InOrder members sorted
  pub first : IsFirstMeeting sorted o

-- ## Sound layouts, and the first thing that is wrong with one that isn't.

-- the member's sectors exist, and each is usable in its group
pub record LiesInside (g : Group) (m : Member) : Type 0 where
  pub exists : Exists m
  pub low : g.low ≤ m.first
  pub high : m.last ≤ g.high

-- a member of this group
pub record IsMemberOf (b : ℕ) (o : Layout) (g : Group) (m : Member) : Type 0 where
  pub stands : Contains (groups_of b o) g
  pub sibling : Contains g.members m

-- every member's sectors exist and are usable
abbrev pub AllInside : ℕ → Layout → Type 0
AllInside b o = (g : Group) (m : Member) → IsMemberOf b o g m → LiesInside g m

-- no sector is in two siblings
abbrev pub AllApart : ℕ → Layout → Type 0
AllApart b o = (g : Group) → Contains (groups_of b o) g → IsApart g.members

-- a slice's own second sector, where that is no extended boot record
abbrev pub IsOwnPlace : Layout → Member → ℕ → Type 0
IsOwnPlace o m s = (m.kind ≡ Slice) × (s ≡ m.first + 1) × (¬ IsEbr o.body s)

-- a sector of a table lies in a leaf or a slice, and isn't the slice's own second one
pub record IsBuried (b : ℕ) (o : Layout) (m : Member) (s : ℕ) : Type 0 where
  pub is_member : IsMember b o m
  pub kind : m.kind ≢ Extended
  pub holds : Holds m s
  pub table : IsTable b o s
  pub foreign : ¬ IsOwnPlace o m s

abbrev pub OffTables : ℕ → Layout → Type 0
OffTables b o = (m : Member) (s : ℕ) → ¬ IsBuried b o m s

abbrev pub entries_in : Body → List (Option Entry)
entries_in (Mbr records chain) = []
entries_in (Gpt t) = t.entries

-- entry n, counted from 1
abbrev pub numbered_entry : Body → ℕ → Option Entry
numbered_entry y zero = None
numbered_entry y (suc k) = slice_index_or (entries_in y) k None

-- used entries i and j, i below j, have one unique GUID
pub record IsSameGuid (y : Body) (i j : ℕ) : Type 0 where
  pub lower : Entry
  pub higher : Entry
  pub at_lower : numbered_entry y i ≡ Some lower
  pub at_higher : numbered_entry y j ≡ Some higher
  pub order : i < j
  pub same : lower.unique ≡ higher.unique

abbrev pub Distinct : Layout → Type 0
Distinct o = (i j : ℕ) → ¬ IsSameGuid o.body i j

-- members lie in what holds them and apart, tables lie in none of them, and unique GUIDs are distinct
pub record Sound (b : ℕ) (o : Layout) : Type 0 where
  pub inside : AllInside b o
  pub apart : AllApart b o
  pub off_tables : OffTables b o
  pub distinct : Distinct o

-- the member of this path lies outside
pub record IsOutside (b : ℕ) (o : Layout) (p : Path) : Type 0 where
  pub group : Group
  pub member : Member
  pub is_of : IsMemberOf b o group member
  pub path : member.path ≡ p
  pub outside : ¬ LiesInside group member

-- the first of them in path order
pub record IsFirstOutside (b : ℕ) (o : Layout) (p : Path) : Type 0 where
  pub here : IsOutside b o p
  pub first : (q : Path) → IsOutside b o q → rank p ≤ rank q

-- the first group with an overlap, and the first in it
pub record IsFirstShared (b : ℕ) (o : Layout) (p q : Path) : Type 0 where
  pub before : List Group
  pub group : Group
  pub rest : List Group
  pub stands : groups_of b o ≡ before ++ group ∷ rest
  pub apart : (g : Group) → Contains before g → IsApart g.members
  pub here : IsFirstOverlap group.members (record { before = p; it = q })

-- the first member in path order that a table lies in, and the lowest sector of one in it
pub record IsFirstBuried (b : ℕ) (o : Layout) (p : Path) (s : ℕ) : Type 0 where
  pub member : Member
  pub path : member.path ≡ p
  pub here : IsBuried b o member s
  pub first : (m : Member) (t : ℕ) → IsBuried b o m t → rank p ≤ rank m.path
  pub lowest : (m : Member) (t : ℕ) → IsBuried b o m t → m.path ≡ p → s ≤ t

-- the lowest higher number, then the lowest lower one
pub record IsFirstSameGuid (y : Body) (i j : ℕ) : Type 0 where
  pub here : IsSameGuid y i j
  pub first : (k l : ℕ) → IsSameGuid y k l → (j < l) ⊎ ((j ≡ l) × (i ≤ k))

-- the first thing that is wrong with a layout
abbrev pub IsUnsound : ℕ → Layout → Finding → Type 0
IsUnsound b o (OutsideUsable p) = IsFirstOutside b o p
IsUnsound b o (finding.Overlap p q) = AllInside b o × IsFirstShared b o p q
IsUnsound b o (OnTable p s) = AllInside b o × AllApart b o × IsFirstBuried b o p s.0
IsUnsound b o (SameGuid i j) = AllInside b o × AllApart b o × OffTables b o × IsFirstSameGuid o.body i j
IsUnsound b o _ = ⊥

-- none where the layout is sound
abbrev pub UnsoundIs : ℕ → Layout → Option Finding → Type 0
UnsoundIs b o None = Sound b o
UnsoundIs b o (Some f) = IsUnsound b o f
