-- What texts stand for.
use Rattle.std.specs.Prelude.{ℕ, List, Bool, false, ◌*◌, ◌^◌, ◌&&◌, ◌||◌, Option, Some, None, if◌then◌else◌, nat_le, length, codes}
use Rattle.std.specs.Prelude.{bytes_eq}
use Rattle.std.specs.Prelude.{option_map, option_and_then, is_some, unwrap_or}
use Rattle.std.specs.Char.{is_ascii_hexdigit}
use Rattle.std.specs.List.{list_all}
use Rattle.std.specs.Option.{option_or}
use Rattle.serde_json.specs.Data.{Data}
use Rattle.serde_json.specs.Find.{as_str}
use Rattle.pt_guid.specs.Guids.{stored_of}
use Rattle.pt_guid.specs.declared.guid.Guid.{Guid}
use Rattle.pt_types.specs.Types.{entry_type_of, record_type_of}
use Rattle.pt_drafts.specs.Digits.{decimal_of, digits_at_end}
use Rattle.pt_drafts.specs.Pieces.{behind, in_front_of}
use Rattle.pt_drafts.specs.Values.{if_below, whole}
use Rattle.pt_drafts.specs.declared.draft.DiskId.{DiskId}
use Rattle.pt_drafts.specs.declared.draft.DiskId.TheVariants as id
use Rattle.pt_drafts.specs.declared.draft.Extent.{Extent}
use Rattle.pt_drafts.specs.declared.draft.Extent.TheVariants.{Sectors, Bytes}
use Rattle.pt_drafts.specs.declared.draft.NamedType.{NamedType}
use Rattle.pt_drafts.specs.declared.draft.TableKind.{TableKind}
use Rattle.pt_drafts.specs.declared.draft.TableKind.TheVariants.{Gpt, Mbr}

-- what a text stands for, at a value that is one
abbrev pub by_text : {A : Type 0} → (List ℕ → Option A) → Data → Option A
by_text f d = option_and_then f (as_str d)

-- ## Kinds of tables, and what a disk is known by.

abbrev pub kind_of : List ℕ → Option TableKind
kind_of text = if bytes_eq text (codes "gpt") then Some Gpt else if bytes_eq text (codes "dos") then Some Mbr else None

-- the GUID with these stored bytes
abbrev pub stored_guid : List ℕ → Guid
stored_guid bytes = record { 0 = bytes }

-- the GUID of a text
unfoldable pub guid_of : List ℕ → Option Guid
guid_of text = option_map stored_guid (stored_of text)

-- one to eight hexadecimal digits of either case
abbrev pub are_hex_digits : List ℕ → Bool
are_hex_digits text = (nat_le 1 (length text) && nat_le (length text) 8) && list_all is_ascii_hexdigit text

-- the signature of an MBR, as sfdisk writes it
unfoldable pub is_signature : List ℕ → Bool
is_signature text = unwrap_or (option_map are_hex_digits (behind (codes "0x") text)) false

abbrev pub disk_of : List ℕ → Option DiskId
disk_of text = if is_signature text then Some id.Signature else option_map id.Guid (guid_of text)

-- ## Types.

-- the type that a text names on a GPT
unfoldable pub entry_kind : List ℕ → Option Guid
entry_kind text = option_map stored_guid (entry_type_of text)

-- and on an MBR
unfoldable pub record_kind : List ℕ → Option ℕ
record_kind text = record_type_of text

abbrev pub named_of : List ℕ → Option NamedType
named_of text =
    if is_some (entry_kind text) || is_some (record_kind text) then Some (record { gpt = entry_kind text; mbr = record_kind text })
    else None

-- ## Numbers.

-- digits and this unit of so many bytes
abbrev pub scaled : List ℕ → ℕ → List ℕ → Option ℕ
scaled unit n text = option_and_then (λ k. if_below (2 ^ 64) (k * n)) (option_and_then decimal_of (in_front_of unit text))

-- a size in bytes, where it fits 64 bits
unfoldable pub bytes_of : List ℕ → Option ℕ
bytes_of text =
    option_or (scaled (codes "KiB") 1024 text) (option_or (scaled (codes "MiB") 1048576 text)
    (option_or (scaled (codes "GiB") 1073741824 text) (scaled (codes "TiB") 1099511627776 text)))

-- how far a partition goes: a number of sectors, or a text of a number of bytes
abbrev pub extent_of : Data → Option Extent
extent_of d = option_or (option_map Sectors (whole d)) (option_map Bytes (by_text bytes_of d))

-- a number, or a text of decimal digits
abbrev pub count_of : Data → Option ℕ
count_of d = option_or (whole d) (by_text decimal_of d)

-- the number at the end of a device's name, where it has one that fits 64 bits
abbrev pub node_number : List ℕ → Option ℕ
node_number text = decimal_of (digits_at_end text)
