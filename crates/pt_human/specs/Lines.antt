-- What the page lists, and in which order.
use Rattle.std.specs.Prelude.{ℕ, List, [], ◌∷◌, fold, if◌then◌else◌}
use Rattle.pt_edit.specs.declared.free.FreeBlock.{FreeBlock}
use Rattle.pt_members.specs.declared.row.Row.{Row}
use Rattle.pt_human.specs.declared.lines.Item.{Item}
use Rattle.pt_human.specs.declared.lines.Item.TheVariants.{Partition, Free}
use Rattle.pt_human.specs.declared.lines.Line.{Line}
use Rattle.pt_human.specs.Places.{inside_of, is_before, place_in}

-- the first and the last sector of a partition or of a block
abbrev pub first_of : Item → ℕ
first_of (Partition r) = r.member.first
first_of (Free b) = b.first

abbrev pub last_of : Item → ℕ
last_of (Partition r) = r.member.last
last_of (Free b) = b.last

-- the line of a partition, and of a block, among these partitions
abbrev pub partition_line : List Row → Row → Line
partition_line rows r =
    record { place = place_in rows (inside_of rows r.member.path) r.member.first; item = Partition r }

abbrev pub free_line : List Row → FreeBlock → Line
free_line rows b = record { place = place_in rows b.inside b.first; item = Free b }

-- lines with one more, behind all that don't come after it
unfoldable pub with_line : Line → List Line → List Line
with_line x [] = x ∷ []
with_line x (y ∷ ys) = if is_before x.place y.place then x ∷ y ∷ ys else y ∷ with_line x ys

abbrev pub with_row : List Row → List Line → Row → List Line
with_row rows lines r = with_line (partition_line rows r) lines

abbrev pub with_block : List Row → List Line → FreeBlock → List Line
with_block rows lines b = with_line (free_line rows b) lines

-- the lines of these partitions and these blocks, by their places; what has one place with another stands behind it if it was
-- listed behind it, and a block behind partitions
abbrev pub lines_of : List Row → List FreeBlock → List Line
lines_of rows blocks = fold (with_block rows) (fold (with_row rows) [] rows) blocks
