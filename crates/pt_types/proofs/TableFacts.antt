-- What holds of the rows, found by computing it.
use Rattle.std.proofs.Common.{◌≡◌, ℕ, List, ◌++◌, map, Bool, true, false, Option, Some, None, refl}
use Rattle.std.specs.Prelude.{bytes_eq, ◌&&◌, ◌||◌, ◌==◌, not, replicate}
use Rattle.std.specs.List.{list_all, AllByRecursion, IsDistinct}
use Rattle.std.specs.Option.{is_some, option_map}
use Rattle.uuid.specs.Text.{by_index}
use Rattle.pt_guid.specs.Codes.{rows}
use Rattle.pt_guid.specs.Guids.{stored_of, text_of}
use Rattle.pt_guid.specs.declared.guid.Guid.{Guid}
use Rattle.pt_types.specs.Tables.{EntryRow, RecordRow, entry_table, record_table, general_rows, root_rows, usr_rows, system_rows}
use Rattle.pt_types.specs.Tables.{other_rows}
use Rattle.pt_types.specs.Types.{code_of, number_of, entry_coded, stored_by}
use Rattle.pt_types.proofs.Found.{differ, distinct, joined}

entry_differ : differ (map (λ (r : EntryRow). r.name) entry_table) ≡ true
entry_differ = refl

pub entry_distinct : IsDistinct bytes_eq (map (λ (r : EntryRow). r.name) entry_table)
entry_distinct = distinct (map (λ (r : EntryRow). r.name) entry_table) entry_differ

record_differ : differ (map (λ (r : RecordRow). r.name) record_table) ≡ true
record_differ = refl

pub record_distinct : IsDistinct bytes_eq (map (λ (r : RecordRow). r.name) record_table)
record_distinct = distinct (map (λ (r : RecordRow). r.name) record_table) record_differ

-- a name is neither a GUID's text nor a code
abbrev pub is_plain : EntryRow → Bool
is_plain r = not (is_some (stored_of r.name)) && not (is_some (code_of r.name))

pub entries_plain : list_all is_plain entry_table ≡ true
entries_plain = refl

abbrev pub is_plain_record : RecordRow → Bool
is_plain_record r = not (is_some (number_of r.name))

pub records_plain : list_all is_plain_record record_table ≡ true
records_plain = refl

-- a row's GUID is the text that is printed of its stored bytes
abbrev pub has_text : Option (List ℕ) → List ℕ → Bool
has_text None guid = false
has_text (Some text) guid = bytes_eq text guid

abbrev pub is_printed : EntryRow → Bool
is_printed r = has_text (option_map text_of (stored_of r.guid)) r.guid

general_printed : list_all is_printed general_rows ≡ true
unfolding by_index
general_printed = refl

root_printed : list_all is_printed root_rows ≡ true
unfolding by_index
root_printed = refl

usr_printed : list_all is_printed usr_rows ≡ true
unfolding by_index
usr_printed = refl

system_printed : list_all is_printed system_rows ≡ true
unfolding by_index
system_printed = refl

other_printed : list_all is_printed other_rows ≡ true
unfolding by_index
other_printed = refl

pub entries_printed : list_all is_printed entry_table ≡ true
entries_printed =
    joined is_printed general_rows (root_rows ++ (usr_rows ++ (system_rows ++ other_rows))) general_printed
    (joined is_printed root_rows (usr_rows ++ (system_rows ++ other_rows)) root_printed
    (joined is_printed usr_rows (system_rows ++ other_rows) usr_printed
    (joined is_printed system_rows other_rows system_printed other_printed)))

-- a row's GUID isn't zero, and a record's number is neither 00 nor EE
abbrev pub is_used : EntryRow → Bool
is_used r = not (has_text (stored_of r.guid) (replicate 16 0))

pub entries_used : list_all is_used entry_table ≡ true
unfolding by_index
entries_used = refl

abbrev pub is_used_number : ℕ → Bool
is_used_number kind = not ((kind == 0) || (kind == 0xEE))

pub records_used : list_all (λ (r : RecordRow). is_used_number r.kind) record_table ≡ true
records_used = refl

-- each code of pt_guid has a row with its type
pub codes_have_rows : AllByRecursion (λ (r : ℕ × Guid). stored_by (entry_coded r.0) ≡ Some r.1.0) rows
unfolding by_index
codes_have_rows = (refl, (refl, (refl, (refl, (refl, (refl, tt))))))
