-- What a line says of its partition: the name of its type, its own name, and what is set of it.
use Rattle.std.specs.Prelude.{ℕ, Bool, true, List, [], ◌∷◌, ◌++◌, ◌||◌, ◌&&◌, Option, Some, None, if◌then◌else◌, codes, encode_utf8}
use Rattle.std.specs.Prelude.{flat_map, nat_eq, nat_le, nat_lt}
use Rattle.std.specs.Char.Utf16.{utf16_chars}
use Rattle.pt_gpt.specs.declared.entry.Entry.{Entry}
use Rattle.pt_guid.specs.declared.guid.Guid.{Guid}
use Rattle.pt_guid.specs.Guids.{text_of}
use Rattle.pt_path.specs.Paths.{shown_path}
use Rattle.pt_members.specs.declared.row.Source.{Source}
use Rattle.pt_members.specs.declared.row.Source.TheVariants as source
use Rattle.pt_types.specs.Types.{entry_name_of, record_name_of}
use Rattle.pt_tables.specs.Entries.{attributes_text}
use Rattle.pt_report.specs.Shown.{hex, units_of}
use Rattle.pt_human.specs.declared.lines.Item.{Item}
use Rattle.pt_human.specs.declared.lines.Item.TheVariants.{Partition, Free}

-- ## Names, with a question mark for what a terminal may act on.

-- control characters, and those that end a line
abbrev pub is_control : ℕ → Bool
is_control c = nat_lt c 32 || ((nat_le 127 c && nat_le c 159) || (nat_eq c 0x2028 || nat_eq c 0x2029))

-- those that turn the direction of text
abbrev pub is_direction : ℕ → Bool
is_direction c =
    nat_eq c 0x61C || (nat_eq c 0x200E || (nat_eq c 0x200F
    || ((nat_le 0x202A c && nat_le c 0x202E) || (nat_le 0x2066 c && nat_le c 0x2069))))

-- what is shown for a character, or for a surrogate that has no partner
abbrev pub char_shown : Option ℕ → ℕ
char_shown None = 63
char_shown (Some c) = if is_control c || is_direction c then 63 else c

abbrev pub char_bytes : Option ℕ → List ℕ
char_bytes c = encode_utf8 (char_shown c)

abbrev pub name_text : List ℕ → List ℕ
name_text units = flat_map char_bytes (utf16_chars units)

-- ## What stands behind the type.

abbrev pub name_more : List ℕ → List ℕ
name_more [] = []
name_more (u ∷ us) = codes "  " ++ name_text (u ∷ us)

abbrev pub in_brackets : List ℕ → List ℕ
in_brackets [] = []
in_brackets (x ∷ xs) = codes "  [" ++ ((x ∷ xs) ++ codes "]")

-- attributes by the words that they have
abbrev pub attributes_more : ℕ → List ℕ
attributes_more n = in_brackets (attributes_text n)

abbrev pub entry_more : Entry → List ℕ
entry_more e = name_more (units_of e.name) ++ attributes_more e.attributes

abbrev pub source_more : Source → List ℕ
source_more (source.Record r) = if nat_eq r.boot 0x80 then codes "  [boot]" else []
source_more (source.Entry e) = entry_more e
source_more (source.Part e) = []

abbrev pub more_text : Item → List ℕ
more_text (Partition r) = source_more r.source
more_text (Free b) = []

-- ## Types, by their names, or else by their numbers or GUIDs.

abbrev pub name_or : Option (List ℕ) → List ℕ → List ℕ
name_or None other = other
name_or (Some name) other = name

abbrev pub record_kind : ℕ → List ℕ
record_kind kind = name_or (record_name_of kind) (hex true 2 kind)

abbrev pub entry_kind : Guid → List ℕ
entry_kind kind = name_or (entry_name_of kind.0) (text_of kind.0)

abbrev pub source_kind : Source → List ℕ
source_kind (source.Record r) = record_kind r.kind
source_kind (source.Entry e) = entry_kind e.kind
source_kind (source.Part e) = hex true 2 e.fstype

abbrev pub kind_text : Item → List ℕ
kind_text (Partition r) = source_kind r.source
kind_text (Free b) = codes "free"

-- ## Numbers.

-- the path of a partition, or a hyphen
abbrev pub path_text : Item → List ℕ
path_text (Partition r) = shown_path r.member.path
path_text (Free b) = codes "-"
