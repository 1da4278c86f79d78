-- The bar of a disk's use: sixty characters, each of which stands for as many sectors.
use Rattle.std.specs.Prelude.{ℕ, zero, suc, ◌+◌, ◌-◌, ◌*◌, ◌/◌, ◌%◌, Bool, List, [], ◌∷◌, ◌++◌, ◌&&◌, if◌then◌else◌, codes, encode_utf8}
use Rattle.std.specs.Prelude.{flat_map, fold, max, nat_le}
use Rattle.pt_human.specs.declared.lines.Item.{Item}
use Rattle.pt_human.specs.declared.lines.Item.TheVariants.{Partition, Free}
use Rattle.pt_human.specs.declared.lines.Line.{Line}

-- a partition stands there as the last digit of its number, and a block as a point
abbrev pub char_of : Item → ℕ
char_of (Partition r) = 48 + r.member.path.number % 10
char_of (Free b) = 46

-- a partition has one of these sectors, or a block all of them
abbrev pub has_cell : ℕ → ℕ → Item → Bool
has_cell first last (Partition r) = nat_le r.member.first last && nat_le first r.member.last
has_cell first last (Free b) = nat_le b.first first && nat_le last b.last

-- by the last line that has them, and a number sign where none does
abbrev pub with_char : ℕ → ℕ → ℕ → Line → ℕ
with_char first last shown l = if has_cell first last l.item then char_of l.item else shown

abbrev pub cell_char : List Line → ℕ → ℕ → ℕ
cell_char lines first last = fold (with_char first last) 35 lines

-- the sectors of character k, from 0 on, of n sectors; there is one at least
abbrev pub cell_first : ℕ → ℕ → ℕ
cell_first n k = k * n / 60

abbrev pub cell_last : ℕ → ℕ → ℕ
cell_last n k = max (cell_first n k) (cell_first n (k + 1) - 1)

abbrev pub cell_bytes : ℕ → List Line → ℕ → List ℕ
cell_bytes n lines k = encode_utf8 (cell_char lines (cell_first n k) (cell_last n k))

-- as many numbers, from k on
unfoldable pub from_on : ℕ → ℕ → List ℕ
from_on k zero = []
from_on k (suc count) = k ∷ from_on (k + 1) count

abbrev pub cells_text : ℕ → List Line → List ℕ
cells_text n lines = flat_map (cell_bytes n lines) (from_on 0 60)

unfoldable pub bar_text : ℕ → List Line → List ℕ
bar_text n lines = codes "[" ++ (cells_text n lines ++ codes "]\n")
