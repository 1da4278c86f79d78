-- All words in order.
use Rattle.std.specs.Prelude.{◌≡◌, ◌-◌, ◌+◌, ◌*◌, ◌/◌, ℕ, List, [], ◌∷◌, drop, replicate, slice_get, Option, Some, None, Result, Ok, Err}
use Rattle.std.specs.Prelude.{if◌then◌else◌, nat_lt, ok_or}
use Rattle.std.specs.String.{string_bytes}
use Rattle.pt_guid.specs.declared.guid.Guid.{Guid}
use Rattle.pt_gpt.specs.declared.table.Table.{Table}
use Rattle.pt_gpt.specs.Copies.{array_len, edge}
use Rattle.pt_mbr.specs.declared.record.Record.{Record}
use Rattle.pt_mbr.specs.declared.ebr.Ebr.{Ebr}
use Rattle.pt_members.specs.declared.layout.Layout.{Layout}
use Rattle.pt_members.specs.declared.layout.Body.{Body}
use Rattle.pt_members.specs.declared.layout.Body.TheVariants.{Mbr, Gpt}
use Rattle.pt_edit.specs.Space.{◌>>=◌}
use Rattle.pt_edit.specs.Converted.{guids_taken, converted}
use Rattle.pt_edit.specs.MbrEdits.{record_typed, record_deleted, record_new}
use Rattle.pt_edit.specs.SliceLabels.{part_typed, part_deleted, part_new}
use Rattle.pt_edit.specs.Entries.{named, unique_set, bit_set, disk_set, extended, entry_typed, entry_deleted, entry_new}
use Rattle.pt_words.specs.declared.asked.Asked.{Asked}
use Rattle.pt_words.specs.declared.error.Refusal.{Refusal}
use Rattle.pt_words.specs.declared.error.Refusal.TheVariants.{NotForThisTable, NoFreshGuid, NoRoomForGpt}
use Rattle.pt_words.specs.declared.word.Code.{Code}
use Rattle.pt_words.specs.declared.word.End.{End}
use Rattle.pt_words.specs.declared.word.Edit.{Edit}
use Rattle.pt_words.specs.declared.word.Edit.TheVariants.{Align, New, Delete, SetKind, SetName, SetUnique, SetDisk, SetBit, Extend, ToGpt}
use Rattle.pt_words.specs.declared.word.Edit.TheVariants.{Empty}

-- what the words are folded over: the layout or nothing, the alignment of starts in sectors, the fresh GUIDs that are left
pub record State : Type 0 where
  pub layout : Option Layout
  pub alignment : ℕ
  pub fresh : List Guid

-- the state before the first word, on a disk of sectors of b bytes: starts are aligned to 1 MiB
abbrev pub initial : ℕ → Option Layout → List Guid → State
initial b old guids = record { layout = old; alignment = 1048576 / b; fresh = guids }

-- an empty GPT of 128 entries on a disk of n sectors
abbrev pub empty_gpt : ℕ → ℕ → Guid → Layout
empty_gpt b n guid =
    record {
      sectors = n;
      body = Gpt (record { disk = guid; first = edge b; last = n - edge b; entries = replicate 128 None });
      labels = [];
    }

-- `o`: an empty GPT, of whatever was there, with the next fresh GUID, on a disk that has room for one
unfoldable pub emptied : ℕ → ℕ → State → Result State Refusal
emptied b n s = do
  guid ← if nat_lt n (2 * array_len b + 4) then Err NoRoomForGpt else ok_or (slice_get s.fresh 0) NoFreshGuid
  Ok (record { layout = Some (empty_gpt b n guid); alignment = s.alignment; fresh = drop 1 s.fresh })

-- in an MBR, or in the table of a GPT
abbrev pub in_kind : Body → (List (Option Record) → List Ebr → Result Layout Refusal) → (Table → Result Layout Refusal)
    → Result Layout Refusal
in_kind (Mbr records chain) in_mbr in_gpt = in_mbr records chain
in_kind (Gpt t) in_mbr in_gpt = in_gpt t

-- `t` by the path: of a partition of a label, or of a record, a logical partition or an entry
unfoldable pub typed : ℕ → ℕ → Option ℕ → Code → Layout → Result Layout Refusal
typed b number (Some letter) code o = part_typed b number letter code o
typed b number None code o =
    in_kind o.body (λ records chain. record_typed b number code records chain o) (λ t. entry_typed b t number code o)

-- `d` by the path
unfoldable pub deleted : ℕ → ℕ → Option ℕ → Layout → Result Layout Refusal
deleted b number (Some letter) o = part_deleted b number letter o
deleted b number None o = in_kind o.body (λ records chain. record_deleted number records chain o) (λ t. entry_deleted t number o)

-- `n` by the path
unfoldable pub made : ℕ → Option ℕ → Asked → List Guid → Layout → Result Layout Refusal
made b (Some letter) a fresh o = part_new b letter a o
made b None a fresh o = in_kind o.body (λ records chain. record_new b a records chain o) (λ t. entry_new b t a fresh o)

-- what a word `n` asks for
abbrev pub asked_for : ℕ → ℕ → ℕ → End → Option Code → Asked
asked_for number alignment start end code = record { number = number; alignment = alignment; start = start; end = end; code = code }

-- what a word makes of a layout on a disk of sectors of b bytes, with an alignment and fresh GUIDs
unfoldable pub made_of : ℕ → ℕ → List Guid → Edit → Layout → Result Layout Refusal
made_of b alignment fresh (New path start end code) o = made b path.letter (asked_for path.number alignment start end code) fresh o
made_of b alignment fresh (Delete path) o = deleted b path.number path.letter o
made_of b alignment fresh (SetKind path code) o = typed b path.number path.letter code o
made_of b alignment fresh (SetName number name) o = named number (string_bytes name) o
made_of b alignment fresh (SetUnique number guid) o = unique_set number guid o
made_of b alignment fresh (SetDisk guid) o = disk_set guid o
made_of b alignment fresh (SetBit number bit value) o = bit_set number bit value o
made_of b alignment fresh Extend o = extended b o
made_of b alignment fresh ToGpt o = converted b fresh o
made_of b alignment fresh (Align k) o = Err NotForThisTable
made_of b alignment fresh Empty o = Err NotForThisTable

-- a new entry of a GPT takes one fresh GUID, any other new partition none
abbrev pub taken_by_new : Option ℕ → Body → ℕ
taken_by_new (Some letter) body = 0
taken_by_new None (Mbr records chain) = 0
taken_by_new None (Gpt t) = 1

-- how many fresh GUIDs a word takes: `g` one for the disk and one for each partition
abbrev pub taken_by : Edit → Layout → ℕ
taken_by (New path start end code) o = taken_by_new path.letter o.body
taken_by ToGpt o = guids_taken o
taken_by _ o = 0

-- a word that needs a layout makes another of it, and takes its fresh GUIDs from the front of those that are left
unfoldable pub step_of : ℕ → Edit → State → Result State Refusal
step_of b w s = do
  old ← ok_or s.layout NotForThisTable
  new ← made_of b s.alignment s.fresh w old
  Ok (record { layout = Some new; alignment = s.alignment; fresh = drop (taken_by w old) s.fresh })

-- what a word makes of a state on a disk of n sectors of b bytes: `a` and `o` need no layout
abbrev pub step : ℕ → ℕ → Edit → State → Result State Refusal
step b n (Align k) s = Ok (record s { alignment = k })
step b n Empty s = emptied b n s
step b n w s = step_of b w s

-- the words in order from a state on; the first that is refused ends them, and so does an end without a layout
unfoldable pub edited_from : ℕ → ℕ → List Edit → State → Result Layout Refusal
edited_from b n [] s = ok_or s.layout NotForThisTable
edited_from b n (w ∷ ws) s = step b n w s >>= edited_from b n ws

-- what the words make of a layout of n sectors of b bytes, or of nothing: a layout, or the first refusal
abbrev pub edited : ℕ → ℕ → Option Layout → List Edit → List Guid → Result Layout Refusal
edited b n old words guids = edited_from b n words (initial b old guids)

abbrev pub Edited : ℕ → ℕ → Option Layout → List Edit → List Guid → Result Layout Refusal → Type 0
Edited b n old words guids r = r ≡ edited b n old words guids
