-- The page of a table.
use Rattle.std.specs.Prelude.{◌≡◌, ℕ, ◌*◌, List, [], ◌++◌, codes, decimal, flat_map, fold, length, max, replicate}
use Rattle.pt_edit.specs.Free.{AreFree, free_places}
use Rattle.pt_edit.specs.declared.free.FreeBlock.{FreeBlock}
use Rattle.pt_guid.specs.Guids.{text_of}
use Rattle.pt_members.specs.declared.layout.Body.{Body}
use Rattle.pt_members.specs.declared.layout.Body.TheVariants.{Mbr, Gpt}
use Rattle.pt_members.specs.declared.layout.Layout.{Layout}
use Rattle.pt_members.specs.Rows.{rows_of}
use Rattle.pt_human.specs.declared.cells.Widths.{Widths}
use Rattle.pt_human.specs.declared.lines.Line.{Line}
use Rattle.pt_human.specs.Bar.{bar_text}
use Rattle.pt_human.specs.Cells.{row_text}
use Rattle.pt_human.specs.Lines.{first_of, last_of, lines_of}
use Rattle.pt_human.specs.Names.{kind_text, more_text, path_text}
use Rattle.pt_human.specs.Places.{depth_of}
use Rattle.pt_human.specs.Sizes.{count_text, size_text}

-- ## The first line: the kind of the table, the disk's size, its sectors, and its GUID.

abbrev pub kind_name : Body → List ℕ
kind_name (Mbr records chain) = codes "MBR"
kind_name (Gpt t) = codes "GPT"

abbrev pub disk_text : Body → List ℕ
disk_text (Mbr records chain) = []
disk_text (Gpt t) = codes ", " ++ text_of t.disk.0

abbrev pub sizes_text : List ℕ → List ℕ → ℕ → ℕ → List ℕ
sizes_text kind size n b =
    kind ++ (codes ", " ++ (size ++ (codes ", " ++ (decimal n ++ (codes " sectors of " ++ (decimal b ++ codes " bytes"))))))

abbrev pub sizes_of : ℕ → Layout → List ℕ
sizes_of b o = sizes_text (kind_name o.body) (size_text (o.sectors * b)) o.sectors b

unfoldable pub head_text : ℕ → Layout → List ℕ
head_text b o = sizes_of b o ++ (disk_text o.body ++ codes "\n")

-- ## How wide the columns are.

-- those of sectors: as the number of the disk's sectors, and as the heading
abbrev pub sectors_width : ℕ → ℕ
sectors_width n = max (length (decimal n)) 5

-- that of types: as the longest one, and as the heading
abbrev pub wider : ℕ → Line → ℕ
wider width l = max (length (kind_text l.item)) width

abbrev pub kinds_width : List Line → ℕ
kinds_width lines = fold wider 4 lines

abbrev pub widths_of : ℕ → List Line → Widths
widths_of n lines = record { sectors = sectors_width n; kinds = kinds_width lines }

-- ## The lines in columns.

abbrev pub heading_more : Body → List ℕ
heading_more (Mbr records chain) = []
heading_more (Gpt t) = codes "  Name"

abbrev pub headings : Widths → Body → List ℕ
headings w body = row_text w (codes "No.") (codes "First") (codes "Last") (codes "Size") (codes "Type") (heading_more body)

-- the path of a line, two spaces to the right for each partition that it lies inside
abbrev pub indented : Line → List ℕ
indented l = replicate (2 * depth_of l.place) 32 ++ path_text l.item

abbrev pub line_text : ℕ → Widths → Line → List ℕ
line_text b w l = row_text w (indented l) (decimal (first_of l.item)) (decimal (last_of l.item))
    (count_text b (first_of l.item) (last_of l.item)) (kind_text l.item) (more_text l.item)

-- ## The page.

-- what stands above the columns, and the columns
abbrev pub top_text : ℕ → Layout → List Line → List ℕ
top_text b o lines = head_text b o ++ bar_text o.sectors lines

abbrev pub columns_text : ℕ → Widths → Body → List Line → List ℕ
columns_text b w body lines = headings w body ++ flat_map (line_text b w) lines

-- of a layout on sectors of b bytes, with these lines
abbrev pub page_with : ℕ → Layout → List Line → List ℕ
page_with b o lines = top_text b o lines ++ columns_text b (widths_of o.sectors lines) o.body lines

-- with the lines of its partitions and of all its free blocks
abbrev pub IsPage : ℕ → Layout → List ℕ → Type 0
IsPage b o text = (blocks : List FreeBlock) × AreFree (free_places b o) blocks × (text ≡ page_with b o (lines_of (rows_of b o) blocks))
