-- When a layout is sound: what private contracts cite.
use Rattle.std.specs.Prelude.{◌≤◌, List, length, Option, Some, None, ℕ, Bool, true, false, [], ◌∷◌, ◌+◌, ◌*◌, ◌%◌}
use Rattle.std.specs.Prelude.{slice_index_or, ◌≡◌, ◌≢◌, ◌<◌, All, ◌⊎◌}
use Rattle.std.specs.List.{AllAdjacentBelow}
use Rattle.pt_members.specs.declared.member.Member.{Member}
use Rattle.pt_layout.specs.declared.sound.overlap.Overlap.{Overlap}
use Rattle.pt_layout.specs.Sound.{Meets, IsApart, IsFirstMeeting, IsFirstOverlap, nobody, LiesInside, IsOwnPlace, AllInside, AllApart}
use Rattle.pt_layout.specs.Sound.{OffTables, IsSameGuid, IsFirstOutside, IsFirstShared, IsFirstBuried, IsFirstSameGuid}
use Rattle.pt_mbr.specs.declared.record.Record.{Record}
use Rattle.pt_members.specs.Members.{Group, Exists, Holds, group_of}
use Rattle.pt_gpt.specs.declared.entry.Entry.{Entry}
use Rattle.pt_members.specs.declared.layout.Layout.{Layout}
use Rattle.pt_path.specs.declared.path.Path.{Path}
use Rattle.pt_members.specs.declared.member.Kind.TheVariants.{Extended}
use Rattle.pt_layout.specs.declared.sound.faults.Fault.{Fault}
use Rattle.pt_layout.specs.declared.sound.faults.Fault.TheVariants.{Outside, Buried}
use Rattle.pt_members.specs.Tables.{IsTable}
use Rattle.pt_layout.specs.declared.sound.spot.Spot.{Spot}
use Rattle.pt_path.specs.Paths.{rank}
use Rattle.pt_members.specs.declared.layout.Body.{Body}

-- ## Members that share sectors.

-- its first sector is not past its last
abbrev pub IsOrdered : Member → Type 0
IsOrdered m = m.first ≤ m.last

abbrev pub FirstMeetingIs : List Member → Option Overlap → Type 0
FirstMeetingIs members None = AllAdjacentBelow (λ x y. ¬ Meets x y) members (length members)
FirstMeetingIs members (Some o) = IsFirstMeeting members o

abbrev pub FirstOverlapIs : List Member → Option Overlap → Type 0
FirstOverlapIs members None = IsApart members
FirstOverlapIs members (Some o) = IsFirstOverlap members o

-- ## Steps over the records.

abbrev pub has_any : List Record → Bool
has_any [] = false
has_any (r ∷ rs) = true

-- ## Numbers of entries. Only entries of one number can have one unique GUID.

-- below 2,048, by four bytes of the unique GUID
abbrev pub entry_mark : Option Entry → ℕ
entry_mark None = 0
entry_mark (Some e) =
    (slice_index_or e.unique.0 0 0 + 8 * slice_index_or e.unique.0 15 0 + 64 * slice_index_or e.unique.0 4 0
    + 512 * slice_index_or e.unique.0 9 0) % 2048

-- ## Members in rows, and what is wrong with one.

-- a table's sector from a first to a last
abbrev pub TableWithin : ℕ → Layout → ℕ → ℕ → ℕ → Type 0
TableWithin b o first last s = (first ≤ s) × (s ≤ last) × IsTable b o s

-- a table's sector in a leaf or slice, not the slice's own second one
abbrev pub BuriedIn : ℕ → Layout → Member → ℕ → Type 0
BuriedIn b o m s = (m.kind ≢ Extended) × Holds m s × IsTable b o s × (¬ IsOwnPlace o m s)

-- the member has the fault, at a sector
abbrev pub HasFault : ℕ → Layout → Fault → Group → Member → Path → ℕ → Type 0
HasFault b o Outside g m q t = (t ≡ 0) × (m.path ≡ q) × (¬ LiesInside g m)
HasFault b o Buried g m q t = (m.path ≡ q) × Exists m × BuriedIn b o m t

abbrev pub no_group : Group
no_group = group_of 0 0 []

-- member i of a group has it
abbrev pub FaultAtMember : ℕ → Layout → Fault → Group → ℕ → Path → ℕ → Type 0
FaultAtMember b o fault g i q t = HasFault b o fault g (slice_index_or g.members i nobody) q t

-- a member of a group has it
abbrev pub FaultIn : ℕ → Layout → Fault → Group → Path → ℕ → Type 0
FaultIn b o fault g q t = (i : ℕ) × (i < length g.members) × FaultAtMember b o fault g i q t

-- a member of group j has it
abbrev pub FaultOfGroup : ℕ → Layout → Fault → List Group → ℕ → Path → ℕ → Type 0
FaultOfGroup b o fault groups j q t = FaultIn b o fault (slice_index_or groups j no_group) q t

-- a member of one of the groups has it
abbrev pub FaultAmong : ℕ → Layout → Fault → List Group → Path → ℕ → Type 0
FaultAmong b o fault groups q t = (j : ℕ) × (j < length groups) × FaultOfGroup b o fault groups j q t

-- in each group every member's first sector is not past its last
abbrev pub AllOrdered : List Group → Type 0
AllOrdered groups = (k : ℕ) (g : Group) → k < length groups → slice_index_or groups k g ≡ g → All IsOrdered g.members

-- group k has this first overlap, and no group before it has one
pub record IsShared (groups : List Group) (k : ℕ) (o : Overlap) : Type 0 where
  pub below : k < length groups
  pub apart : (j : ℕ) → j < k → IsApart (slice_index_or groups j no_group).members
  pub here : IsFirstOverlap (slice_index_or groups k no_group).members o

-- the first overlap of the first group that has one
abbrev pub SharedIs : List Group → Option Overlap → Type 0
SharedIs groups None = (j : ℕ) → j < length groups → IsApart (slice_index_or groups j no_group).members
SharedIs groups (Some o) = (k : ℕ) × IsShared groups k o

-- ## The first of some members and sectors, by path and then by sector.

abbrev pub SpotIsBefore : Spot → Spot → Type 0
SpotIsBefore a b = (rank a.path < rank b.path) ⊎ ((rank a.path ≡ rank b.path) × (a.lba < b.lba))

abbrev pub spot : Path → ℕ → Spot
spot path lba = record { path = path; lba = lba }

-- the first of P, none where there is none
abbrev pub LeastIs : (Path → ℕ → Type 0) → Option Spot → Type 0
LeastIs P None = (q : Path) (t : ℕ) → ¬ P q t
LeastIs P (Some s) = P s.path s.lba × ((q : Path) (t : ℕ) → P q t → ¬ SpotIsBefore (spot q t) s)

-- the first of two
abbrev pub FirstSpotIs : Option Spot → Option Spot → Option Spot → Type 0
FirstSpotIs None y r = r ≡ y
FirstSpotIs (Some x) None r = r ≡ Some x
FirstSpotIs (Some x) (Some y) r = (SpotIsBefore y x × (r ≡ Some y)) ⊎ ((¬ SpotIsBefore y x) × (r ≡ Some x))

-- ## Each of the findings of a layout, where it is the first.

abbrev pub OutsideIs : ℕ → Layout → Option Path → Type 0
OutsideIs b o None = AllInside b o
OutsideIs b o (Some p) = IsFirstOutside b o p

abbrev pub OverlapIs : ℕ → Layout → Option Overlap → Type 0
OverlapIs b o None = AllApart b o
OverlapIs b o (Some x) = IsFirstShared b o x.before x.it

abbrev pub OnTableIs : ℕ → Layout → Option Spot → Type 0
OnTableIs b o None = OffTables b o
OnTableIs b o (Some s) = IsFirstBuried b o s.path s.lba

abbrev pub SameGuidIs : Body → Option (ℕ × ℕ) → Type 0
SameGuidIs y None = (i j : ℕ) → ¬ IsSameGuid y i j
SameGuidIs y (Some p) = IsFirstSameGuid y p.0 p.1

-- ## Entries with one unique GUID.

-- both are used, with one unique GUID
abbrev pub HasSameUnique : Option Entry → Option Entry → Type 0
HasSameUnique None f = ⊥
HasSameUnique (Some e) None = ⊥
HasSameUnique (Some e) (Some f) = e.unique ≡ f.unique

abbrev pub SameAt : List (Option Entry) → ℕ → ℕ → Type 0
SameAt es i j = HasSameUnique (slice_index_or es i None) (slice_index_or es j None)

-- the first entry before entry k that has its unique GUID
abbrev pub TwinIs : List (Option Entry) → ℕ → Option ℕ → Type 0
TwinIs es k None = (i : ℕ) → i < k → ¬ SameAt es i k
TwinIs es k (Some i) = (i < k) × SameAt es i k × ((j : ℕ) → j < i → ¬ SameAt es j k)

-- the first entry with one before it that has its unique GUID, after the first such, both counted from 0
abbrev pub TwinsAre : List (Option Entry) → Option (ℕ × ℕ) → Type 0
TwinsAre es None = (i k : ℕ) → i < k → k < length es → ¬ SameAt es i k
TwinsAre es (Some p) =
    (p.0 < p.1) × (p.1 < length es) × SameAt es p.0 p.1 × ((i k : ℕ) → i < k → k < length es → SameAt es i k
    → (p.1 < k) ⊎ ((p.1 ≡ k) × (p.0 ≤ i)))
