-- Words on a partition of an MBR, whatever it is of.
use Rattle.std.specs.Prelude.{ℕ, Bool, List, Option, Some, [], None, ◌-◌, ◌∷◌, slice_get, min, if◌then◌else◌, nat_eq, nat_lt, ◌&&◌, ◌||◌}
use Rattle.std.specs.Prelude.{is_some, ok_or, Result, Ok, Err}
use Rattle.pt_mbr.specs.declared.record.Record.{Record}
use Rattle.pt_mbr.specs.declared.ebr.Ebr.{Ebr}
use Rattle.pt_members.specs.declared.layout.Layout.{Layout}
use Rattle.pt_words.specs.declared.asked.Asked.{Asked}
use Rattle.pt_words.specs.declared.error.Refusal.{Refusal}
use Rattle.pt_words.specs.declared.error.Refusal.TheVariants.{NoSuchPartition, UnknownCode, ContainerType}
use Rattle.pt_words.specs.declared.word.Code.{Code}
use Rattle.pt_edit.specs.SliceLabels.{without_label, without_logicals, with_new_label}
use Rattle.pt_edit.specs.Records.{record_type, is_container, is_primary, used_record, with_record, with_mbr, new_type, is_slice, number_for}
use Rattle.pt_edit.specs.Chains.{logical_typed, logical_deleted, logical_new, len_of, farthest}
use Rattle.pt_mbr.specs.Records.{is_extended, extended_of}
use Rattle.pt_members.specs.declared.layout.Labelled.{Labelled}
use Rattle.pt_mbr.specs.Chain.{lba}
use Rattle.pt_bsd.specs.Labels.{empty_of}
use Rattle.pt_members.specs.Members.{records_as}
use Rattle.pt_edit.specs.declared.space.Run.{Run}
use Rattle.pt_edit.specs.Space.{◌>>=◌, Area, spanned_by, placed}

-- ## `t` in an MBR: another type.

-- a record has another type, if neither is a container's; nothing else changes
unfoldable pub primary_typed : ℕ → ℕ → Code → List (Option Record) → Result (List (Option Record)) Refusal
primary_typed b number code records = do
  r ← ok_or (used_record records number) NoSuchPartition
  kind ← ok_or (record_type code) UnknownCode
  if is_container b r.kind || is_container b kind then Err ContainerType
      else Ok (with_record records number (Some (record r { kind = kind })))

-- `t` of a record or of a logical partition
unfoldable pub record_typed : ℕ → ℕ → Code → List (Option Record) → List Ebr → Layout → Result Layout Refusal
record_typed b number code records chain o =
    if is_primary number then primary_typed b number code records >>= (λ made. Ok (with_mbr o made chain o.labels))
    else logical_typed b number code chain >>= (λ made. Ok (with_mbr o records made o.labels))

-- ## `d` in an MBR: a partition goes with all that it holds.

-- a record goes, with the label of its number; an extended one also with its chain and the logical partitions' labels
abbrev pub without_record : ℕ → Bool → List (Option Record) → List Ebr → Layout → Layout
without_record number extended records chain o =
    if extended then with_mbr o (with_record records number None) [] (without_logicals (without_label number o.labels))
    else with_mbr o (with_record records number None) chain (without_label number o.labels)

unfoldable pub primary_deleted : ℕ → List (Option Record) → List Ebr → Layout → Result Layout Refusal
primary_deleted number records chain o = do
  r ← ok_or (used_record records number) NoSuchPartition
  Ok (without_record number (is_extended r.kind) records chain o)

-- `d` of a record or of a logical partition
unfoldable pub record_deleted : ℕ → List (Option Record) → List Ebr → Layout → Result Layout Refusal
record_deleted number records chain o =
    if is_primary number then primary_deleted number records chain o
    else logical_deleted number chain o.labels >>= (λ x. Ok (with_mbr o records x.0 x.1))

-- ## A new record of sector 0.

-- the extended record, the first where there are more
abbrev pub extended_record : List (Option Record) → Option Record
extended_record records = slice_get (extended_of records) 0

-- a record of the type would be a second extended one
abbrev pub is_second : List (Option Record) → ℕ → Bool
is_second records kind = is_extended kind && is_some (extended_record records)

-- where a record's partition may be placed on a disk of n sectors: from sector 1 on, as far as the disk and 32 bits reach
abbrev pub disk_area : ℕ → List (Option Record) → Area
disk_area n records = record { low = 1; high = min (n - 1) 4294967295; taken = spanned_by (records_as 512 1 records); empties = None }

-- a slice has room for its label from 2 sectors on
abbrev pub is_short_slice : ℕ → ℕ → Run → Bool
is_short_slice b kind run = is_slice b kind && nat_lt (len_of run) 2

-- a new record
abbrev pub record_at : ℕ → Run → Record
record_at kind run = record { boot = 0; start_chs = farthest; kind = kind; end_chs = farthest; start = run.first; size = len_of run }

-- a new extended partition has one empty extended boot record, in its first sector
abbrev pub new_chain : ℕ → Run → List Ebr → List Ebr
new_chain kind run chain = if is_extended kind then record { at = lba run.first; logical = None; next = None } ∷ [] else chain

-- a new slice has the empty label of its length
abbrev pub new_labels : ℕ → ℕ → ℕ → Run → List Labelled → List Labelled
new_labels b number kind run labels = if is_slice b kind then with_new_label number (empty_of (len_of run)) labels else labels

-- a new record: its number and type, then its place, and then its size
unfoldable pub primary_new : ℕ → Asked → List (Option Record) → List Ebr → Layout → Result Layout Refusal
primary_new b a records chain o = do
  number ← number_for records a.number
  kind ← ok_or (new_type a.code) UnknownCode
  run ← if is_second records kind then Err ContainerType else placed (disk_area o.sectors records) a.alignment a.start a.end
  if is_short_slice b kind run then Err ContainerType
      else Ok (with_mbr o (with_record records number (Some (record_at kind run))) (new_chain kind run chain)
      (new_labels b number kind run o.labels))

-- ## `n` without a letter in an MBR: a new record or logical partition.

-- the number asks for one more logical partition, whose number is then its place in the chain
abbrev pub one_more : ℕ
one_more = 5

-- a new record or logical partition
unfoldable pub record_new : ℕ → Asked → List (Option Record) → List Ebr → Layout → Result Layout Refusal
record_new b a records chain o =
    if nat_eq a.number one_more
    then logical_new b (extended_record records) chain o.labels a >>= (λ x. Ok (with_mbr o records x.0 x.1))
    else primary_new b a records chain o
