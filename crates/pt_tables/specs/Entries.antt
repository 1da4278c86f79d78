-- The entries of a GPT as JSON.
use Rattle.std.specs.Prelude.{ℕ, zero, suc, List, [], ◌∷◌, ◌++◌, ◌+◌, ◌/◌, ◌%◌, ◌^◌, ◌||◌, Bool, Option, Some, None, if◌then◌else◌}
use Rattle.std.specs.Prelude.{codes, decimal}
use Rattle.std.specs.Prelude.{◌&&◌, ◌-◌, fold, nat_eq, nat_lt, length, slice_index, false}
use Rattle.std.specs.List.{list_all}
use Rattle.std.specs.Char.{is_ascii_digit}
use Rattle.std.specs.Char.Utf16.{utf16_lossy_chars, has_unpaired_surrogate}
use Rattle.std.specs.Str.{encode_utf8_all}
use Rattle.uuid.specs.Text.{hyphenated_text, upper}
use Rattle.serde_json.specs.Data.{Data, string}
use Rattle.pt_guid.specs.Guids.{mixed}
use Rattle.pt_guid.specs.declared.guid.Guid.{Guid}
use Rattle.pt_bsd.specs.declared.label.Label.{Label}
use Rattle.pt_gpt.specs.declared.entry.Entry.{Entry}
use Rattle.pt_members.specs.Members.{is_slice_kind, label_of}
use Rattle.pt_members.specs.declared.layout.Labelled.{Labelled}
use Rattle.pt_types.specs.Types.{entry_name_of}
use Rattle.pt_tables.specs.Fields.{Field, object_of, num, nums, numbered, end_field, type_name_fields}
use Rattle.pt_tables.specs.Labels.{bsd_fields}

-- ## GUIDs.

-- the text of a GUID, in upper case
abbrev pub guid_text : Guid → List ℕ
guid_text g = hyphenated_text upper (mixed g.0)

-- ## Names: by their characters where that is possible.

abbrev pub all_zero : List ℕ → Bool
all_zero us = list_all (λ u. nat_eq u 0) us

-- the units without the zeros at their end
unfoldable pub trimmed : List ℕ → List ℕ
trimmed [] = []
trimmed (u ∷ us) = if all_zero (u ∷ us) then [] else u ∷ trimmed us

unfoldable pub has_zero : List ℕ → Bool
has_zero [] = false
has_zero (u ∷ us) = nat_eq u 0 || has_zero us

-- they aren't the units of a text without U+0000
abbrev pub is_no_text : List ℕ → Bool
is_no_text us = has_zero us || has_unpaired_surrogate us

abbrev pub units_field : List ℕ → Field
units_field us =
    if is_no_text us then (codes "name_units", nums us) else (codes "name", string (encode_utf8_all (utf16_lossy_chars us)))

abbrev pub units_fields : List ℕ → List Field
units_fields us = if nat_eq (length us) 0 then [] else units_field us ∷ []

abbrev pub name_fields : List ℕ → List Field
name_fields units = units_fields (trimmed units)

-- ## Attributes: in sfdisk's words, and as a number.

abbrev pub has_bit : ℕ → ℕ → Bool
has_bit n k = nat_eq ((n / 2 ^ k) % 2) 1

-- a text with a word more, and a gap between the two
abbrev pub with_word : List ℕ → List ℕ → List ℕ → List ℕ
with_word gap [] word = word
with_word gap (x ∷ xs) word = (x ∷ xs) ++ (gap ++ word)

-- a bit with the name that it has
abbrev pub with_named : ℕ → List ℕ → ℕ × List ℕ → List ℕ
with_named n text named = if has_bit n named.0 then with_word (codes " ") text named.1 else text

-- UEFI 2.10, 5.3.3
abbrev pub named_bits : List (ℕ × List ℕ)
named_bits = (0, codes "RequiredPartition") ∷ (1, codes "NoBlockIOProtocol") ∷ (2, codes "LegacyBIOSBootable") ∷ []

-- n numbers, from k on
unfoldable pub from_on : ℕ → ℕ → List ℕ
from_on k zero = []
from_on k (suc n) = k ∷ from_on (k + 1) n

-- bits 48 to 63 are the type's own
abbrev pub own_bits : List ℕ
own_bits = from_on 48 16

abbrev pub with_own : ℕ → List ℕ → ℕ → List ℕ
with_own n text k = if has_bit n k then with_word (codes ",") text (decimal k) else text

abbrev pub own_text : ℕ → List ℕ
own_text n = fold (with_own n) [] own_bits

abbrev pub with_own_text : List ℕ → List ℕ → List ℕ
with_own_text text [] = text
with_own_text text (x ∷ xs) = with_word (codes " ") text (codes "GUID:" ++ x ∷ xs)

-- as sfdisk writes them. It has no words for bits 3 to 47.
abbrev pub attributes_text : ℕ → List ℕ
attributes_text n = with_own_text (fold (with_named n) [] named_bits) (own_text n)

abbrev pub text_fields : List ℕ → List Field
text_fields [] = []
text_fields (x ∷ xs) = (codes "attrs", string (x ∷ xs)) ∷ []

abbrev pub attribute_fields : ℕ → List Field
attribute_fields n = if nat_eq n 0 then [] else (codes "attributes", num n) ∷ text_fields (attributes_text n)

-- ## Entries.

abbrev pub ends_with_digit : List ℕ → Bool
ends_with_digit text = nat_lt 0 (length text) && is_ascii_digit (slice_index text (length text - 1))

-- what stands between a device's name and a partition's number: a `p` where the name ends with a digit
abbrev pub between : List ℕ → List ℕ
between device = if ends_with_digit device then codes "p" else []

abbrev pub node_text : List ℕ → ℕ → List ℕ
node_text device n = device ++ (between device ++ decimal n)

-- what an entry says but for its number and its place
unfoldable pub entry_kind_fields : Entry → Option Label → List Field
entry_kind_fields e label =
    (codes "type", string (guid_text e.kind))
    ∷ (codes "uuid", string (guid_text e.unique))
    ∷ (type_name_fields (entry_name_of e.kind.0)
    ++ (name_fields e.name ++ (attribute_fields e.attributes ++ bsd_fields (is_slice_kind e.kind.0) label)))

-- entry n of a table
abbrev pub entry_fields : List ℕ → ℕ → Entry → Option Label → List Field
entry_fields device n e label =
    (codes "number", num n)
    ∷ (codes "node", string (node_text device n))
    ∷ (codes "start", num e.first)
    ∷ end_field e.first e.last
    ∷ entry_kind_fields e label

-- what stands in place n of a table, where it is used
abbrev pub entry_data : List ℕ → List Labelled → ℕ → Option Entry → List Data
entry_data device labels n None = []
entry_data device labels n (Some e) = object_of (entry_fields device n e (label_of labels n)) ∷ []

-- the used entries, from number n on
abbrev pub entries_data : List ℕ → List Labelled → ℕ → List (Option Entry) → List Data
entries_data device labels n es = numbered (entry_data device labels) n es
