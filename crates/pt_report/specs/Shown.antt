-- The lines of a layout.
use Rattle.std.specs.Prelude.{ℕ, ◌+◌, ◌-◌, Bool, List, [], ◌∷◌, ◌++◌, codes, decimal, encode_utf8, length, min, replicate, Option, Some}
use Rattle.std.specs.Prelude.{None, if◌then◌else◌, ◌==◌, ◌||◌, nat_lt, flat_map, not, take_while, true, false, find, bytes_eq, option_map}
use Rattle.std.specs.Fmt.{digits}
use Rattle.pt_path.specs.declared.path.Path.{Path}
use Rattle.std.specs.Char.Utf16.{utf16_chars}
use Rattle.pt_gpt.specs.declared.entry.Entry.{Entry}
use Rattle.pt_guid.specs.declared.guid.Guid.{Guid}
use Rattle.pt_guid.specs.Codes as types
use Rattle.pt_guid.specs.Guids.{text_of}
use Rattle.pt_members.specs.declared.layout.Body.{Body}
use Rattle.pt_members.specs.declared.layout.Body.TheVariants.{Mbr, Gpt}
use Rattle.pt_members.specs.declared.layout.Layout.{Layout}
use Rattle.pt_members.specs.declared.row.Row.{Row}
use Rattle.pt_members.specs.declared.row.Source.{Source}
use Rattle.pt_members.specs.declared.row.Source.TheVariants as source
use Rattle.pt_members.specs.Rows.{rows_of}

-- ## Lines, and what stands in them.

-- the fields that follow another, each behind a space, and the line's end
abbrev pub rest_of : List (List ℕ) → List ℕ
rest_of [] = codes "\n"
rest_of (field ∷ fields) = codes " " ++ (field ++ rest_of fields)

-- a line: its fields with a space between two, and its end
abbrev pub line : List (List ℕ) → List ℕ
line [] = codes "\n"
line (field ∷ fields) = field ++ rest_of fields

-- a number in hexadecimal digits of one case, with zeros in front of fewer than so many
abbrev pub hex : Bool → ℕ → ℕ → List ℕ
hex upper count n = replicate (count - length (digits 16 upper n)) 48 ++ digits 16 upper n

-- what stands behind the number of a path: nothing, or a dot and its letter, from a on
abbrev pub letter_text : Option ℕ → List ℕ
letter_text None = []
letter_text (Some letter) = codes "." ++ encode_utf8 (min (97 + letter) 255)

-- a path: its number, and its letter if it has one
abbrev pub path_text : Path → List ℕ
path_text p = decimal p.number ++ letter_text p.letter

-- ## The name of an entry, as it is shown.

-- its units before the first zero
abbrev pub units_of : List ℕ → List ℕ
units_of name = take_while (λ u. not (u == 0)) name

-- what is shown for a character, or for a surrogate that has no partner: a question mark for that, for a control character
-- below a space, and for U+007F
abbrev pub char_shown : Option ℕ → ℕ
char_shown None = 63
char_shown (Some c) = if nat_lt c 32 || c == 127 then 63 else c

-- its bytes
abbrev pub char_bytes : Option ℕ → List ℕ
char_bytes c = encode_utf8 (char_shown c)

-- what is shown for these units of UTF-16, character by character
abbrev pub name_text : List ℕ → List ℕ
name_text units = flat_map char_bytes (utf16_chars units)

-- the name of an entry, where it isn't empty
abbrev pub name_fields : List ℕ → List (List ℕ)
name_fields [] = []
name_fields (u ∷ us) = name_text (u ∷ us) ∷ []

-- ## The lines that tell a layout: one for its table, then one a partition in the order of paths, a slice before its label's.

-- the code that stands for a type, where one does
abbrev pub code_of : List ℕ → Option ℕ
code_of kind = option_map (λ (r : ℕ × Guid). r.0) (find (λ (r : ℕ × Guid). bytes_eq r.1.0 kind) types.rows)

-- the type of an entry: its code, or where it has none its GUID
abbrev pub type_shown : Option ℕ → List ℕ → List ℕ
type_shown (Some code) kind = hex true 4 code
type_shown None kind = text_of kind

abbrev pub type_text : Guid → List ℕ
type_text kind = type_shown (code_of kind.0) kind.0

abbrev pub entry_fields : Entry → List (List ℕ)
entry_fields e = type_text e.kind ∷ hex false 16 e.attributes ∷ text_of e.unique.0 ∷ name_fields (units_of e.name)

-- what the record or the entry of a partition tells
abbrev pub source_fields : Source → List (List ℕ)
source_fields (source.Record r) = hex true 2 r.kind ∷ hex true 2 r.boot ∷ []
source_fields (source.Entry e) = entry_fields e
source_fields (source.Part e) = hex true 2 e.fstype ∷ []

-- a partition: its path, its first and its last sector, and what its record or entry tells
abbrev pub row_line : Row → List ℕ
row_line r = line (path_text r.member.path ∷ decimal r.member.first ∷ decimal r.member.last ∷ source_fields r.source)

-- the table: its kind and the number of sectors, of a GPT its usable sectors and its GUID
abbrev pub table_fields : ℕ → Body → List (List ℕ)
table_fields n (Mbr records chain) = codes "mbr" ∷ decimal n ∷ []
table_fields n (Gpt t) = codes "gpt" ∷ decimal n ∷ decimal t.first ∷ decimal t.last ∷ text_of t.disk.0 ∷ []

abbrev pub layout_text : ℕ → Layout → List ℕ
layout_text b o = line (table_fields o.sectors o.body) ++ flat_map row_line (rows_of b o)
