-- The records of an MBR, and its logical partitions, as JSON.
use Rattle.std.specs.Prelude.{ℕ, List, [], ◌∷◌, ◌++◌, ◌+◌, ◌^◌, Option, Some, None, if◌then◌else◌, codes, map, true}
use Rattle.std.specs.Prelude.{nat_eq, nat_lt, slice_index, drop}
use Rattle.hex.specs.Hex.{encode_lower}
use Rattle.serde_json.specs.Data.{Data, boolean, string}
use Rattle.pt_bsd.specs.declared.label.Label.{Label}
use Rattle.pt_mbr.specs.declared.ebr.Ebr.{Ebr}
use Rattle.pt_mbr.specs.declared.record.Record.{Record}
use Rattle.pt_members.specs.Members.{label_of}
use Rattle.pt_members.specs.declared.layout.Labelled.{Labelled}
use Rattle.pt_types.specs.Types.{record_name_of}
use Rattle.pt_tables.specs.Fields.{Field, object_of, array_of, num, numbered, type_name_fields}
use Rattle.pt_tables.specs.Labels.{bsd_fields}
use Rattle.pt_tables.specs.Entries.{node_text}

-- a byte as sfdisk writes a type: in hexadecimal digits, without a zero in front
abbrev pub without_zero : List ℕ → List ℕ
without_zero text = if nat_eq (slice_index text 0) 48 then drop 1 text else text

abbrev pub kind_text : ℕ → List ℕ
kind_text kind = without_zero (encode_lower (kind ∷ []))

-- 80 is sfdisk's mark of a partition to be booted, 00 isn't written, and another byte is written as it is
unfoldable pub boot_fields : ℕ → List Field
boot_fields boot =
    if nat_eq boot 0 then [] else (if nat_eq boot 0x80 then (codes "bootable", boolean true) else (codes "boot", num boot)) ∷ []

-- what a record may say
unfoldable pub further_fields : Record → Option Label → List Field
further_fields r label = type_name_fields (record_name_of r.kind) ++ (boot_fields r.boot ++ bsd_fields (nat_eq r.kind 0xA5) label)

-- what a record says but for its place
unfoldable pub kind_fields : Record → Option Label → List Field
kind_fields r label =
    (codes "type", string (kind_text r.kind))
    ∷ (codes "start_chs", string (encode_lower r.start_chs))
    ∷ (codes "end_chs", string (encode_lower r.end_chs))
    ∷ further_fields r label

-- record n of sector 0
abbrev pub record_fields : List ℕ → ℕ → Record → Option Label → List Field
record_fields device n r label =
    (codes "number", num n)
    ∷ (codes "node", string (node_text device n))
    ∷ (codes "start", num r.start)
    ∷ (codes "size", num r.size)
    ∷ kind_fields r label

-- what stands in place n, where it is used
abbrev pub record_data : List ℕ → List Labelled → ℕ → Option Record → List Data
record_data device labels n None = []
record_data device labels n (Some r) = object_of (record_fields device n r (label_of labels n)) ∷ []

-- the used records, from number n on
abbrev pub records_data : List ℕ → List Labelled → ℕ → List (Option Record) → List Data
records_data device labels n rs = numbered (record_data device labels) n rs

-- ## Logical partitions.

-- where one starts on the disk; where that is past 64 bits, how far behind its extended boot record
abbrev pub start_field : ℕ → ℕ → Field
start_field at start = if nat_lt (at + start) (2 ^ 64) then (codes "start", num (at + start)) else (codes "offset", num start)

-- partition n, whose extended boot record stands in sector `at`
abbrev pub logical_fields : List ℕ → ℕ → ℕ → Record → Option Label → List Field
logical_fields device n at r label =
    (codes "number", num n)
    ∷ (codes "node", string (node_text device n))
    ∷ (codes "record", num at)
    ∷ start_field at r.start
    ∷ (codes "size", num r.size)
    ∷ kind_fields r label

-- the partition of an extended boot record, where it has one
abbrev pub logical_data : List ℕ → List Labelled → ℕ → ℕ → Option Record → List Data
logical_data device labels n at None = []
logical_data device labels n at (Some r) = object_of (logical_fields device n at r (label_of labels n)) ∷ []

-- the number of the next one
abbrev pub number_after : ℕ → Option Record → ℕ
number_after n None = n
number_after n (Some r) = n + 1

-- the logical partitions of a chain, from number n on
unfoldable pub logicals_data : List ℕ → List Labelled → ℕ → List Ebr → List Data
logicals_data device labels n [] = []
logicals_data device labels n (x ∷ xs) =
    logical_data device labels n x.at.0 x.logical ++ logicals_data device labels (number_after n x.logical) xs

-- the sectors of the extended boot records, where there are some
abbrev pub chain_fields : List Ebr → List Field
chain_fields [] = []
chain_fields (x ∷ xs) = (codes "chain", array_of (map (λ e. num e.at.0) (x ∷ xs))) ∷ []
