-- The lines of the types.
use Rattle.std.specs.Prelude.{ℕ, ◌-◌, List, ◌++◌, Option, Some, None, true, codes, length, replicate, flat_map}
use Rattle.std.specs.Fmt.{digits}
use Rattle.pt_types.specs.Tables.{EntryRow, RecordRow, entry_table, record_table}

-- a number in hexadecimal digits of upper case, with zeros in front of fewer than so many
abbrev pub hex : ℕ → ℕ → List ℕ
hex count n = replicate (count - length (digits 16 true n)) 48 ++ digits 16 true n

-- a code in four digits, or a hyphen where there is none
abbrev pub code_text : Option ℕ → List ℕ
code_text None = codes "-"
code_text (Some code) = hex 4 code

-- of an entry's type: gpt, its code, its GUID and its name
abbrev pub entry_line : EntryRow → List ℕ
entry_line r = codes "gpt " ++ (code_text r.code ++ (codes " " ++ (r.guid ++ (codes " " ++ (r.name ++ codes "\n")))))

-- of a record's type: mbr, its number in two digits, and its name
abbrev pub record_line : RecordRow → List ℕ
record_line r = codes "mbr " ++ (hex 2 r.kind ++ (codes " " ++ (r.name ++ codes "\n")))

-- all of them, in the order of the tables
abbrev pub types_lines : List ℕ
types_lines = flat_map entry_line entry_table ++ flat_map record_line record_table
