-- What a text names as a partition's type, and which name a type has.
use Rattle.std.specs.Prelude.{ℕ, Bool, false, List, Option, Some, None, length, find, if◌then◌else◌, ◌==◌, ◌||◌}
use Rattle.std.specs.Prelude.{bytes_eq}
use Rattle.std.specs.Char.{is_digit}
use Rattle.std.specs.List.{list_all}
use Rattle.std.specs.Option.{option_map, option_or}
use Rattle.std.specs.Str.Parse.{digits_value}
use Rattle.pt_guid.specs.Guids.{stored_of, text_of}
use Rattle.pt_types.specs.Tables.{EntryRow, RecordRow, entry_table, record_table}
use Rattle.pt_types.specs.declared.entries.EntryType.{EntryType}
use Rattle.pt_types.specs.declared.records.RecordType.{RecordType}

-- ## The rows as they stand in src/.

abbrev pub entry_row : EntryType → EntryRow
entry_row r = record { name = r.name.now; code = r.code; guid = r.guid.now }

abbrev pub record_row : RecordType → RecordRow
record_row r = record { name = r.name.now; kind = r.kind }

-- ## Hexadecimal digits, of either case.

-- the number that a text of digits writes
abbrev pub hex_of : List ℕ → Option ℕ
hex_of text = if list_all (λ c. is_digit c 16) text then Some (digits_value 16 text) else None

-- four digits are a code
abbrev pub code_of : List ℕ → Option ℕ
code_of text = if length text == 4 then hex_of text else None

-- one digit or two are the number of a record's type
abbrev pub number_of : List ℕ → Option ℕ
number_of text = if (length text == 1) || (length text == 2) then hex_of text else None

-- ## Types of entries.

abbrev pub has_code : Option ℕ → ℕ → Bool
has_code None code = false
has_code (Some known) code = known == code

-- the first row with this name, this code, this GUID
abbrev pub entry_named : List ℕ → Option EntryRow
entry_named name = find (λ r. bytes_eq r.name name) entry_table

abbrev pub entry_coded : ℕ → Option EntryRow
entry_coded code = find (λ r. has_code r.code code) entry_table

abbrev pub entry_of : List ℕ → Option EntryRow
entry_of guid = find (λ r. bytes_eq r.guid guid) entry_table

-- the stored bytes of a row's GUID
abbrev pub stored_by : Option EntryRow → Option (List ℕ)
stored_by None = None
stored_by (Some r) = stored_of r.guid

-- the row that a text stands for which is no GUID: a code's, or else a name's
abbrev pub entry_for : Option ℕ → List ℕ → Option EntryRow
entry_for (Some code) text = entry_coded code
entry_for None text = entry_named text

-- the type that a text names on a GPT, by its stored bytes: that of a GUID's text, or else of a code, or else of a name
abbrev pub entry_type_of : List ℕ → Option (List ℕ)
entry_type_of text = option_or (stored_of text) (stored_by (entry_for (code_of text) text))

-- the name that is printed for the type of these stored bytes
abbrev pub entry_name_of : List ℕ → Option (List ℕ)
entry_name_of stored = option_map (λ (r : EntryRow). r.name) (entry_of (text_of stored))

-- ## Types of records.

-- the first row with this name, this number
abbrev pub record_named : List ℕ → Option RecordRow
record_named name = find (λ r. bytes_eq r.name name) record_table

abbrev pub record_numbered : ℕ → Option RecordRow
record_numbered kind = find (λ r. r.kind == kind) record_table

-- a number is that type, but for 00 of an unused record and EE of a protective one; another text is a name
abbrev pub record_for : Option ℕ → List ℕ → Option ℕ
record_for (Some kind) text = if (kind == 0) || (kind == 0xEE) then None else Some kind
record_for None text = option_map (λ (r : RecordRow). r.kind) (record_named text)

-- the type that a text names on an MBR
abbrev pub record_type_of : List ℕ → Option ℕ
record_type_of text = record_for (number_of text) text

-- the name that is printed for a type
abbrev pub record_name_of : ℕ → Option (List ℕ)
record_name_of kind = option_map (λ (r : RecordRow). r.name) (record_numbered kind)
