-- The partitions of a layout, its slices, and the rows that show them: what private contracts cite.
use Rattle.std.specs.Prelude.{ℕ, List, [], filter, Option, ◌≡◌, ◌≤◌, Some, None}
use Rattle.std.specs.Prelude.{drop, flat_map, option_to_list}
use Rattle.pt_bsd.specs.declared.label.Label.{Label}
use Rattle.pt_members.specs.declared.layout.Slice.{Slice}
use Rattle.pt_members.specs.declared.member.Member.{Member}
use Rattle.pt_members.specs.Members.{slice_in, has_place, label_of, part_rows, parts_in, Exists, Holds}
use Rattle.pt_members.specs.declared.row.Row.{Row}
use Rattle.pt_members.specs.declared.layout.Layout.{Layout}
use Rattle.pt_members.specs.declared.member.Kind.{Kind}
use Rattle.pt_members.specs.declared.member.Kind.TheVariants as kind
use Rattle.pt_members.specs.declared.member.Kind.TheVariants.{Leaf}
use Rattle.pt_members.specs.declared.owned.Reach.{Reach}
use Rattle.pt_members.specs.Tables.{IsWithin}

-- ## Slices, and where their label places are.
--
-- A slice is a member of that kind: what slices there are, in which order and under which numbers, the list of members says.

-- the slice in a place, where it has a label place on a disk of n sectors
abbrev pub placed_in : ℕ → Option Member → List Slice
placed_in n o = filter (has_place n) (slice_in o)

-- ## The leaves that have a sector.

-- a leaf whose sectors exist, and which has this one
abbrev pub IsLeafWith : Member → ℕ → Type 0
IsLeafWith m s = Exists m × (m.kind ≡ Leaf) × Holds m s

-- new has all sectors of old, and those of P
abbrev pub Widens : (ℕ → Type 0) → Reach → Reach → Type 0
Widens P old new = (new.low ≤ old.low) × (old.high ≤ new.high) × ((s : ℕ) → P s → IsWithin new s)

-- ## The walk over the partitions of a layout.

-- the label of a slice; of what is none, none
abbrev pub label_under : Kind → Layout → Member → Option Label
label_under Leaf o m = None
label_under kind.Slice o m = label_of o.labels m.path.number
label_under kind.Extended o m = None

-- the partitions of a slice's label, where it has one, from letter k on
abbrev pub parts_from : Option Label → Member → ℕ → List Member
parts_from None slice k = []
parts_from (Some l) slice k = flat_map option_to_list (drop k (parts_in (Some l) slice))

-- each with what stands in its place
abbrev pub parts_left : Option Label → Member → ℕ → List Row
parts_left None slice k = []
parts_left (Some l) slice k = flat_map option_to_list (drop k (part_rows l slice))
