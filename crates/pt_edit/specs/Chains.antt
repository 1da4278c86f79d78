-- Words on logical partitions and their chain.
use Rattle.std.specs.Prelude.{◌≡◌, ◌<◌, ◌+◌, ℕ, Bool, List, length, slice_index_or, slice_set, Option, Some, None, ◌≤◌, ◌-◌, option_map}
use Rattle.std.specs.Prelude.{slice_get, if◌then◌else◌, nat_eq, nat_le, nat_lt, ◌&&◌, ◌||◌, ◌^◌, [], ◌∷◌, ◌++◌, flat_map, find, is_some}
use Rattle.std.specs.Prelude.{is_none, ok_or, option_and_then, unwrap_or, Result, Ok, Err}
use Rattle.std.specs.List.{range_with_len}
use Rattle.pt_mbr.specs.declared.record.Record.{Record}
use Rattle.pt_mbr.specs.declared.ebr.Ebr.{Ebr}
use Rattle.pt_members.specs.Members.{used_before, no_ebr, logicals_as}
use Rattle.pt_members.specs.declared.layout.Labelled.{Labelled}
use Rattle.pt_edit.specs.SliceLabels.{lowered, raised, with_new_label}
use Rattle.pt_words.specs.declared.word.Code.{Code}
use Rattle.pt_words.specs.declared.error.Refusal.{Refusal}
use Rattle.pt_words.specs.declared.error.Refusal.TheVariants.{NoSuchPartition, UnknownCode, ContainerType, NoSpace}
use Rattle.pt_edit.specs.Records.{record_type, is_container, new_type, is_slice, OfMbr, used_record}
use Rattle.std.specs.List.{insert}
use Rattle.pt_sector.specs.declared.address.Lba.{Lba}
use Rattle.pt_mbr.specs.Chain.{lba, IsUpward}
use Rattle.pt_bsd.specs.Labels.{empty_of}
use Rattle.pt_mbr.specs.Records.{is_extended}
use Rattle.pt_edit.specs.declared.space.Run.{Run}
use Rattle.pt_edit.specs.Space.{◌>>=◌, Area, taken_by, placed}
use Rattle.pt_words.specs.declared.asked.Asked.{Asked}
use Rattle.pt_members.specs.declared.layout.Layout.{Layout}

-- ## Logical partitions in their chain.

-- the extended boot record at a place
abbrev pub ebr_at : List Ebr → ℕ → Ebr
ebr_at chain k = slice_index_or chain k no_ebr

-- the number that a logical partition has at a place: they count from 5, and empty extended boot records have none
abbrev pub number_at : List Ebr → ℕ → ℕ
number_at chain k = 5 + used_before k chain

-- the extended boot record at a place has the logical partition of a number
abbrev pub is_numbered : List Ebr → ℕ → ℕ → Bool
is_numbered chain number k = is_some (ebr_at chain k).logical && nat_eq (number_at chain k) number

-- the place of the extended boot record with the logical partition of a number
abbrev pub place_of : List Ebr → ℕ → Option ℕ
place_of chain number = find (is_numbered chain number) (range_with_len 0 (length chain))

-- the logical partition of a number: that place, and its record
unfoldable pub logical_of : List Ebr → ℕ → Option (ℕ × Record)
logical_of chain number =
    option_and_then (λ (k : ℕ). option_map (λ (r : Record). (k, r)) (ebr_at chain k).logical) (place_of chain number)

-- the chain with another logical partition, or none, in the extended boot record at a place
abbrev pub with_logical : List Ebr → ℕ → Option Record → List Ebr
with_logical chain k logical = slice_set chain k (record (ebr_at chain k) { logical = logical })

-- `t` of a logical partition: another type, if neither is a container's, and nothing else changes
unfoldable pub logical_typed : ℕ → ℕ → Code → List Ebr → Result (List Ebr) Refusal
logical_typed b number code chain = do
  x ← ok_or (logical_of chain number) NoSuchPartition
  kind ← ok_or (record_type code) UnknownCode
  if is_container b x.1.kind || is_container b kind then Err ContainerType
      else Ok (with_logical chain x.0 (Some (record x.1 { kind = kind })))

-- `d` of a logical partition: its extended boot record stays in the chain, empty, and each higher one has the number
-- below its own, with its label
unfoldable pub logical_deleted : ℕ → List Ebr → List Labelled → Result (List Ebr × List Labelled) Refusal
logical_deleted number chain labels = do
  x ← ok_or (logical_of chain number) NoSuchPartition
  Ok (with_logical chain x.0 None, lowered number labels)

-- ## How a new logical partition enters a chain.
--
-- Each chain is spoken of, also one that no disk has. Of a disk's chain the first extended boot record stands in the
-- extended partition's first sector, below each sector that another may take: there is always one before a new one.

-- it stands in the sector, and has no logical partition
abbrev pub is_empty_in : ℕ → Ebr → Bool
is_empty_in s e = nat_eq e.at.0 s && is_none e.logical

-- the place of the first such one
abbrev pub empty_at : List Ebr → ℕ → Option ℕ
empty_at chain s = find (λ k. is_empty_in s (ebr_at chain k)) (range_with_len 0 (length chain))

-- the place by its sector: behind those that stand below it, up to the first that doesn't
abbrev pub place_for : List Ebr → ℕ → ℕ
place_for chain s = unwrap_or (find (λ k. nat_le s (ebr_at chain k).at.0) (range_with_len 0 (length chain))) (length chain)

-- where the one that comes to a place links: where the one before it did; or, with none before it, to the first
abbrev pub link_at : List Ebr → ℕ → Option Lba
link_at chain k = if nat_eq k 0 then option_map (λ (e : Ebr). e.at) (slice_get chain 0) else (ebr_at chain (k - 1)).next

-- the chain where the one before a place, if any, links to the sector
abbrev pub linked : List Ebr → ℕ → ℕ → List Ebr
linked chain k s = if nat_eq k 0 then chain else slice_set chain (k - 1) (record (ebr_at chain (k - 1)) { next = Some (lba s) })

-- the chain with one more at a place, which takes over the link of the one before it
abbrev pub with_ebr : List Ebr → ℕ → ℕ → Record → List Ebr
with_ebr chain k s r = insert (linked chain k s) k (record { at = lba s; logical = Some r; next = link_at chain k })

-- a chain with one more logical partition, and its number: an empty extended boot record at a place has it, or a new one, which is at
-- most the 128th
abbrev pub entered_at : List Ebr → ℕ → Record → Option ℕ → Result (List Ebr × ℕ) Refusal
entered_at chain s r (Some k) = Ok (with_logical chain k (Some r), number_at chain k)
entered_at chain s r None =
    if nat_le 128 (length chain) then Err NoSpace
    else Ok (with_ebr chain (place_for chain s) s r, number_at chain (place_for chain s))

-- the same behind a sector: the empty one that stands there has it, if there is one
unfoldable pub entered : List Ebr → ℕ → Record → Result (List Ebr × ℕ) Refusal
entered chain s r = entered_at chain s r (empty_at chain s)

-- ## `n` of a logical partition: where it is placed, and what it makes of the chain and of the labels.
--
-- Sectors are the disk's own numbers. A partition and its record lie in the extended partition, whose start and size
-- have 32 bits, and its record takes a sector of them: a size always fits a record.

-- an extended boot record's own sector
abbrev pub own_sector : Ebr → List Run
own_sector e = record { first = e.at.0; last = e.at.0 } ∷ []

-- what isn't free in a chain: the sectors of its logical partitions, and of its extended boot records
abbrev pub taken_of : List Ebr → List Run
taken_of chain = taken_by (logicals_as 512 5 chain) ++ flat_map own_sector chain

-- its own sector, where it is empty
abbrev pub empty_sector : Ebr → List ℕ
empty_sector e = elim e.logical as (λ o. List ℕ) [ None ↦ e.at.0 ∷ [] | Some r ↦ [] ]

-- where logical partitions are placed: in the extended partition, outside the chain's records and their partitions, and
-- behind a sector that is free as well or has an empty record
abbrev pub logical_area : Record → List Ebr → Area
logical_area x chain = record {
  low = x.start;
  high = x.start + x.size - 1;
  taken = taken_of chain;
  empties = Some (flat_map empty_sector chain);
}

-- how many sectors there are from the first to the last
abbrev pub len_of : Run → ℕ
len_of r = r.last - r.first + 1

-- the CHS field of the records that are made here
abbrev pub farthest : List ℕ
farthest = 0xFE ∷ 0xFF ∷ 0xFF ∷ []

-- the record of a new logical partition, which starts in the sector behind its extended boot record
abbrev pub record_for : ℕ → ℕ → Record
record_for kind len = record { boot = 0; start_chs = farthest; kind = kind; end_chs = farthest; start = 1; size = len }

-- a slice without a sector for its label, or longer than its label can tell
abbrev pub is_misfit : ℕ → ℕ → ℕ → Bool
is_misfit b kind len = is_slice b kind && (nat_lt len 2 || nat_le (2 ^ 32) len)

-- the labels where the logical partitions from a number on have the number above theirs, with the empty label of a new
-- slice of that number
abbrev pub labels_with : ℕ → ℕ → ℕ → ℕ → List Labelled → List Labelled
labels_with b kind len number labels =
    if is_slice b kind then with_new_label number (empty_of len) (raised number labels) else raised number labels

-- a logical partition is put into the chain, behind the sector before it, and its number into the labels; its type is no extended one's
unfoldable pub logical_new : ℕ → Option Record → List Ebr → List Labelled → Asked → Result (List Ebr × List Labelled) Refusal
logical_new b extended chain labels a = do
  parent ← ok_or extended NoSuchPartition
  kind ← ok_or (new_type a.code) UnknownCode
  run ← if is_extended kind then Err ContainerType else placed (logical_area parent chain) a.alignment a.start a.end
  made ← if is_misfit b kind (len_of run) then Err ContainerType else entered chain (run.first - 1) (record_for kind (len_of run))
  Ok (made.0, labels_with b kind (len_of run) made.1 labels)

-- ## Records that lie on the disk and share no sector, and that `n` keeps them so.

-- a sector of the used record of a number
pub record InRecord (records : List (Option Record)) (k s : ℕ) : Type 0 where
  pub part : Record
  pub is_record : used_record records k ≡ Some part
  pub from : part.start ≤ s
  pub to : s < part.start + part.size

-- each sector of the records is on the disk of n sectors, none is sector 0, and none is in two
pub record LieApart (n : ℕ) (records : List (Option Record)) : Type 0 where
  pub inside : (k s : ℕ) → InRecord records k s → (1 ≤ s) × (s < n)
  pub one : (j k s : ℕ) → InRecord records j s → InRecord records k s → j ≡ k

abbrev pub RecordsLieApart : Layout → Type 0
RecordsLieApart o = OfMbr o.body (λ records chain. LieApart o.sectors records)

-- ## Chains as disks have them.

-- each extended boot record stands where the one before it links, links lead upward, and the last one has none
abbrev pub IsLinked : Option Lba → List Ebr → Type 0
IsLinked from [] = from ≡ None
IsLinked from (e ∷ es) = (from ≡ Some e.at) × IsUpward e.at e.next × IsLinked e.next es

-- ## The logical partitions of a chain in the order of their numbers, which count from 5.

-- one by the sector of its extended boot record, and its record
pub record Logical : Type 0 where
  pub at : ℕ
  pub partition : Record

-- that of a sector, where there is one
abbrev pub logical_in : ℕ → Option Record → List Logical
logical_in s None = []
logical_in s (Some r) = record { at = s; partition = r } ∷ []

abbrev pub logicals_of : List Ebr → List Logical
logicals_of [] = []
logicals_of (e ∷ es) = logical_in e.at.0 e.logical ++ logicals_of es
