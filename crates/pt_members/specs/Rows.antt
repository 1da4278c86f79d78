-- The partitions of a layout, each with what stands in its place, in the order of their paths.
use Rattle.std.specs.Prelude.{ℕ, List, [], ◌∷◌, Contains, flat_map, map, option_to_list, Option, Some, None}
use Rattle.pt_bsd.specs.declared.label.Label.{Label}
use Rattle.pt_members.specs.declared.layout.Body.{Body}
use Rattle.pt_members.specs.declared.layout.Layout.{Layout}
use Rattle.pt_members.specs.declared.member.Kind.{Kind}
use Rattle.pt_members.specs.declared.member.Kind.TheVariants.{Leaf, Slice, Extended}
use Rattle.pt_members.specs.declared.member.Member.{Member}
use Rattle.pt_members.specs.declared.row.Row.{Row}
use Rattle.pt_members.specs.Members.{label_of, part_rows, parts, present, rows}

-- the partitions of a slice's label
abbrev pub rows_in : Option Label → Member → List Row
rows_in None slice = []
rows_in (Some l) slice = flat_map option_to_list (part_rows l slice)

-- what stands below a partition in its place: the partitions of a slice's label
abbrev pub rows_below : Kind → Layout → Member → List Row
rows_below Leaf o m = []
rows_below Slice o m = rows_in (label_of o.labels m.path.number) m
rows_below Extended o m = []

-- those alone
abbrev pub members_below : Kind → Layout → Member → List Member
members_below Leaf o m = []
members_below Slice o m = present (parts o m)
members_below Extended o m = []

-- a place: nothing where it is unused
abbrev pub rows_at : Layout → Option Row → List Row
rows_at o None = []
rows_at o (Some r) = r ∷ rows_below r.member.kind o r.member

-- the partitions of a layout: its records or entries and its logical partitions, each with its label's behind it
abbrev pub rows_of : ℕ → Layout → List Row
rows_of b o = flat_map (rows_at o) (rows b o.body)

-- the partitions in a table's own places: its records or entries, and its logical partitions
abbrev pub body_rows : ℕ → Body → List Row
body_rows b body = flat_map option_to_list (rows b body)

-- the partition of a row
abbrev pub member_of : Row → Member
member_of r = r.member

-- the partitions of a layout alone
abbrev pub members_of : ℕ → Layout → List Member
members_of b o = map member_of (rows_of b o)

-- m is one of them
abbrev pub IsMember : ℕ → Layout → Member → Type 0
IsMember b o m = Contains (members_of b o) m
