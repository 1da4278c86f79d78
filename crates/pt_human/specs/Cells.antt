-- Lines in columns.
use Rattle.std.specs.Prelude.{ℕ, ◌-◌, List, [], ◌∷◌, ◌++◌, codes, length, replicate}
use Rattle.pt_human.specs.declared.cells.Widths.{Widths}

-- a cell at the right of a column, and at the left of one
abbrev pub pad_left : ℕ → List ℕ → List ℕ
pad_left width cell = replicate (width - length cell) 32 ++ cell

abbrev pub pad_right : ℕ → List ℕ → List ℕ
pad_right width cell = cell ++ replicate (width - length cell) 32

-- a type and what stands behind it; where nothing does, the line ends with the type
abbrev pub kind_cell : ℕ → List ℕ → List ℕ → List ℕ
kind_cell width kind [] = kind
kind_cell width kind (x ∷ xs) = pad_right width kind ++ (x ∷ xs)

-- ## The cells of a line, with a gap behind each but the last.

abbrev pub path_cell : List ℕ → List ℕ
path_cell path = pad_right 9 path ++ codes "  "

abbrev pub number_cell : ℕ → List ℕ → List ℕ
number_cell width number = pad_left width number ++ codes "  "

abbrev pub sector_cells : ℕ → List ℕ → List ℕ → List ℕ
sector_cells width first last = number_cell width first ++ number_cell width last

abbrev pub end_cells : ℕ → List ℕ → List ℕ → List ℕ → List ℕ
end_cells width size kind more = number_cell 10 size ++ (kind_cell width kind more ++ codes "\n")

-- a path, the first and the last sector, a size, a type and what stands behind it
unfoldable pub row_text : Widths → List ℕ → List ℕ → List ℕ → List ℕ → List ℕ → List ℕ → List ℕ
row_text w path first last size kind more =
    path_cell path ++ (sector_cells w.sectors first last ++ end_cells w.kinds size kind more)
