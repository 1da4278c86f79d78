-- Which sectors are tables of a layout, and who owns a sector: what private contracts cite.
use Rattle.std.specs.Prelude.{◌≡◌, ◌<◌, ◌≤◌, ◌⊎◌, ◌+◌, ℕ, List, length, slice_index_or, Option, Some, None, IfSome, ◌↔◌, Contains}
use Rattle.pt_members.specs.declared.layout.Layout.{Layout}
use Rattle.pt_members.specs.declared.member.Kind.TheVariants.{Leaf, Slice}
use Rattle.pt_members.specs.declared.member.Member.{Member}
use Rattle.pt_members.specs.declared.search.Wanted.{Wanted}
use Rattle.pt_members.specs.declared.search.Wanted.TheVariants.{LeafWith, LeafNamed, SliceWith}
use Rattle.pt_path.specs.Paths.{rank}
use Rattle.pt_members.specs.Members.{Exists, Holds}
use Rattle.pt_members.specs.Rows.{IsMember}
use Rattle.pt_gpt.specs.declared.entry.Entry.{Entry}
use Rattle.pt_members.specs.declared.owned.Reach.{Reach}

-- ## The search for a partition.

-- the member is as wanted
abbrev pub IsAsWanted : Wanted → Member → Type 0
IsAsWanted (LeafWith lba) m = Exists m × (m.kind ≡ Leaf) × Holds m lba.0
IsAsWanted (LeafNamed path k) m = Exists m × (m.kind ≡ Leaf) × (m.path ≡ path) × (m.first + k ≤ m.last)
IsAsWanted (SliceWith lba) m = Exists m × (m.kind ≡ Slice) × Holds m lba.0

-- of the members in P that are as wanted, x is the first in path order
abbrev pub IsFirstWanted : (Member → Type 0) → Wanted → Member → Type 0
IsFirstWanted P wanted x = P x × IsAsWanted wanted x × ((y : Member) → P y → IsAsWanted wanted y → rank x.path ≤ rank y.path)

-- none is as wanted, or this is the first that is
abbrev pub Found : ℕ → Layout → Wanted → Option Member → Type 0
Found b o wanted None = (x : Member) → IsMember b o x → ¬ IsAsWanted wanted x
Found b o wanted (Some x) = IsFirstWanted (IsMember b o) wanted x

-- ## Sectors in a row that hold all that partitions own.

-- the first sector of an entry isn't below them, and its last one not above
abbrev pub Spans : Reach → Entry → Type 0
Spans r e = (r.low ≤ e.first) × (e.last ≤ r.high)

-- of each used entry
abbrev pub AllSpanned : Reach → List (Option Entry) → Type 0
AllSpanned r es = (k : ℕ) → k < length es → IfSome (slice_index_or es k None) (Spans r)

-- ## The sectors of tables that stand alone, listed in order.

-- new has the numbers of old, and those of P
abbrev pub Gains : (ℕ → Type 0) → List ℕ → List ℕ → Type 0
Gains P old new = (s : ℕ) → Contains new s ↔ (Contains old s ⊎ P s)
