-- Where a line stands on the page.
use Rattle.std.specs.Prelude.{ℕ, Bool, true, false, List, Option, Some, None, ◌&&◌, if◌then◌else◌, find, is_none, nat_eq, nat_lt}
use Rattle.std.specs.Option.{option_map}
use Rattle.pt_path.specs.declared.path.Path.{Path}
use Rattle.pt_members.specs.declared.member.Kind.{Kind}
use Rattle.pt_members.specs.declared.member.Kind.TheVariants.{Leaf, Slice, Extended}
use Rattle.pt_members.specs.declared.row.Row.{Row}
use Rattle.pt_human.specs.declared.places.Place.{Place}

-- ## What a partition, or a block, lies inside.

abbrev pub is_extended : Kind → Bool
is_extended Leaf = false
is_extended Slice = false
is_extended Extended = true

-- the extended partition
abbrev pub extended_in : List Row → Option Row
extended_in rows = find (λ (r : Row). is_extended r.member.kind) rows

-- it is the path of an entry, a record or a logical partition with this number
abbrev pub is_numbered : ℕ → Path → Bool
is_numbered n p = nat_eq p.number n && is_none p.letter

-- the entry, the record or the logical partition with this number
abbrev pub numbered : List Row → ℕ → Option Row
numbered rows n = find (λ (r : Row). is_numbered n r.member.path) rows

-- of the numbers of a table's own level those from 5 on are of logical partitions, where there is an extended one
abbrev pub inside_by : List Row → ℕ → Option ℕ → Option ℕ
inside_by rows n (Some letter) = Some n
inside_by rows n None = if nat_lt n 5 then None else option_map (λ (r : Row). r.member.path.number) (extended_in rows)

-- the number of what a partition lies inside: of a label's its slice's, of a logical partition the extended one's
abbrev pub inside_of : List Row → Path → Option ℕ
inside_of rows p = inside_by rows p.number p.letter

abbrev pub holder : List Row → Option ℕ → Option Row
holder rows None = None
holder rows (Some n) = numbered rows n

-- ## Its place: the first sectors of what it lies inside, the outermost first, and then its own.

abbrev pub place_under : Option Row → ℕ → ℕ → Place
place_under None middle first = record { top = middle; middle = Some first; inner = None }
place_under (Some outer) middle first = record { top = outer.member.first; middle = Some middle; inner = Some first }

abbrev pub place_at : List Row → Option Row → ℕ → Place
place_at rows None first = record { top = first; middle = None; inner = None }
place_at rows (Some r) first = place_under (holder rows (inside_of rows r.member.path)) r.member.first first

-- of what begins at `first`, inside the partition with a number or in none
abbrev pub place_in : List Row → Option ℕ → ℕ → Place
place_in rows inside first = place_at rows (holder rows inside) first

-- how many partitions it lies inside
abbrev pub depth_by : Option ℕ → Option ℕ → ℕ
depth_by None inner = 0
depth_by (Some first) None = 1
depth_by (Some first) (Some within) = 2

abbrev pub depth_of : Place → ℕ
depth_of p = depth_by p.middle p.inner

-- ## The order of places.

-- what has no sector comes before what has one
abbrev pub comes_first : Option ℕ → Option ℕ → Bool
comes_first a None = false
comes_first None (Some y) = true
comes_first (Some x) (Some y) = nat_lt x y

abbrev pub is_before : Place → Place → Bool
is_before p q =
    if nat_eq p.top q.top
    then (if comes_first p.middle q.middle then true
    else if comes_first q.middle p.middle then false else comes_first p.inner q.inner)
    else nat_lt p.top q.top
