-- Words on the records of an MBR.
use Rattle.std.specs.Prelude.{ℕ, Bool, Option, Some, None, if◌then◌else◌, nat_eq, nat_le, ◌&&◌, ◌||◌, ◌-◌, List, slice_index_or, slice_set}
use Rattle.std.specs.Prelude.{Result, Ok, Err, ok_or, find, is_none, not}
use Rattle.std.specs.List.{range_with_len}
use Rattle.pt_mbr.specs.Records.{is_extended}
use Rattle.pt_words.specs.declared.word.Code.{Code}
use Rattle.pt_words.specs.declared.word.Code.TheVariants.{Two, Four}
use Rattle.pt_mbr.specs.declared.record.Record.{Record}
use Rattle.pt_mbr.specs.declared.ebr.Ebr.{Ebr}
use Rattle.pt_members.specs.declared.layout.Labelled.{Labelled}
use Rattle.pt_members.specs.declared.layout.Layout.{Layout}
use Rattle.pt_members.specs.declared.layout.Body.{Body}
use Rattle.pt_members.specs.declared.layout.Body.TheVariants.{Mbr, Gpt}
use Rattle.pt_edit.specs.declared.records.parts.MbrParts.{MbrParts}
use Rattle.pt_words.specs.declared.error.Refusal.{Refusal}
use Rattle.pt_words.specs.declared.error.Refusal.TheVariants.{NoSuchPartition, NumberTaken, NoSpace}

-- ## The type bytes of records.

-- the type byte that a code gives a record: two digits, and neither 00 of unused records nor EE of protective ones
abbrev pub record_type : Code → Option ℕ
record_type (Two kind) = if nat_eq kind 0 || nat_eq kind 0xEE then None else Some kind
record_type (Four kind) = None

-- the type byte of a new record, 83 where no code is given
abbrev pub new_type : Option Code → Option ℕ
new_type None = Some 0x83
new_type (Some code) = record_type code

-- the slices' type; there are none with sectors of 4096 bytes
abbrev pub is_slice : ℕ → ℕ → Bool
is_slice b kind = nat_eq b 512 && nat_eq kind 0xA5

-- a type of records that hold other partitions
abbrev pub is_container : ℕ → ℕ → Bool
is_container b kind = is_extended kind || is_slice b kind

-- ## The records of sector 0 by their numbers, and their types.

-- the layout of an MBR
abbrev pub layout_with : ℕ → List (Option Record) → List Ebr → List Labelled → Layout
layout_with sectors records chain labels = record { sectors = sectors; body = Mbr records chain; labels = labels }

-- the layout that its parts are
abbrev pub whole_of : MbrParts → Layout
whole_of m = layout_with m.sectors m.records m.chain m.labels

-- what holds of the records and the chain of an MBR, and of no other body
abbrev pub OfMbr : Body → (List (Option Record) → List Ebr → Type 0) → Type 0
OfMbr (Mbr records chain) Holds = Holds records chain
OfMbr (Gpt t) Holds = ⊥

-- the numbers of the records of sector 0
abbrev pub is_primary : ℕ → Bool
is_primary number = nat_le 1 number && nat_le number 4

-- the used record of a number
abbrev pub used_record : List (Option Record) → ℕ → Option Record
used_record records number = if is_primary number then slice_index_or records (number - 1) None else None

-- the records with another thing at a number
abbrev pub with_record : List (Option Record) → ℕ → Option Record → List (Option Record)
with_record records number r = slice_set records (number - 1) r

-- the layout with other records, another chain and other labels
abbrev pub with_mbr : Layout → List (Option Record) → List Ebr → List Labelled → Layout
with_mbr o records chain labels = layout_with o.sectors records chain labels

-- ## The number of a new record.

-- it is a number of no used record
abbrev pub is_unused : List (Option Record) → ℕ → Bool
is_unused records number = is_primary number && is_none (slice_index_or records (number - 1) None)

-- the lowest of these
abbrev pub lowest_unused : List (Option Record) → Option ℕ
lowest_unused records = find (is_unused records) (range_with_len 1 4)

-- the number that is asked for, or for 0 the lowest unused one
abbrev pub number_for : List (Option Record) → ℕ → Result ℕ Refusal
number_for records asked =
    if nat_eq asked 0 then ok_or (lowest_unused records) NoSpace
    else if not (is_primary asked) then Err NoSuchPartition
    else if is_unused records asked then Ok asked
    else Err NumberTaken
