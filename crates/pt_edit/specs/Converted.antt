-- What `g` makes of a layout, or why not.
use Rattle.std.specs.Prelude.{◌+◌, ◌-◌, ◌||◌, ℕ, Bool, false, List, [], ◌∷◌, length, take, drop, slice_index_or, slice_set}
use Rattle.std.specs.Prelude.{replicate}
use Rattle.std.specs.Prelude.{Option, None, option_map, is_none, Result, Ok, Err, if◌then◌else◌, nat_le, fold, zip}
use Rattle.std.specs.List.{list_any}
use Rattle.std.specs.Str.{bytes_eq}
use Rattle.pt_guid.specs.Codes.{type_of_record}
use Rattle.pt_guid.specs.declared.guid.Guid.{Guid}
use Rattle.pt_gpt.specs.declared.entry.Entry.{Entry}
use Rattle.pt_gpt.specs.declared.table.Table.{Table}
use Rattle.pt_members.specs.declared.layout.Layout.{Layout}
use Rattle.pt_members.specs.declared.layout.Body.{Body}
use Rattle.pt_members.specs.declared.layout.Body.TheVariants.{Mbr, Gpt}
use Rattle.pt_words.specs.declared.error.Refusal.{Refusal}
use Rattle.pt_words.specs.declared.error.Refusal.TheVariants.{NotForThisTable, UnknownCode, NoRoomForGpt, NoFreshGuid, SameGuid}
use Rattle.pt_edit.specs.Space.{◌>>=◌}
use Rattle.pt_edit.specs.Entries.{partitions, no_room}
use Rattle.pt_gpt.specs.Copies.{edge}
use Rattle.pt_edit.specs.declared.partitions.Partition.{Partition}

-- the partitions of an MBR
abbrev pub partitions_in : Body → Result (List Partition) Refusal
partitions_in (Mbr records chain) = Ok (partitions (Mbr records chain))
partitions_in (Gpt t) = Err NotForThisTable

-- the type GUID that an entry has in place of a record's type
abbrev pub new_type : ℕ → Option (List ℕ)
new_type = type_of_record

-- a partition has a type that no entry has
abbrev pub has_unknown : List Partition → Bool
has_unknown ps = list_any (λ p. is_none (new_type p.kind)) ps

-- how many fresh GUIDs a layout takes: one for the disk, and one for each partition
abbrev pub guids_taken : Layout → ℕ
guids_taken o = 1 + length (partitions o.body)

-- two of these GUIDs are one
unfoldable pub has_twins : List Guid → Bool
has_twins [] = false
has_twins (g ∷ gs) = list_any (λ h. bytes_eq g.0 h.0) gs || has_twins gs

-- the entry of a partition with a GUID: its new type, its sectors, no attributes and an empty name
abbrev pub entry_of : Guid → Partition → Option Entry
entry_of guid p =
    option_map
    (λ kind. record { kind = record { 0 = kind }; unique = guid; first = p.first; last = p.last; attributes = 0; name = replicate 36 0 })
    (new_type p.kind)

-- the entries with that of a partition at its number, by its GUID
abbrev pub put_entry : List (Option Entry) → Guid × Partition → List (Option Entry)
put_entry entries x = slice_set entries (x.1.number - 1) (entry_of x.0 x.1)

-- 128 entries: those of partitions with their GUIDs, and no others
unfoldable pub entries_of : List Guid → List Partition → List (Option Entry)
entries_of guids ps = fold put_entry (replicate 128 None) (zip guids ps)

abbrev pub no_guid : Guid
no_guid = record { 0 = [] }

-- a GPT of these partitions on n sectors of b bytes, with GUIDs in order: the disk's, then the partitions'
abbrev pub gpt_of : ℕ → ℕ → List Guid → List Partition → Table
gpt_of b n guids ps = record {
  disk = slice_index_or guids 0 no_guid;
  first = edge b;
  last = n - edge b;
  entries = entries_of (drop 1 guids) ps;
}

-- nothing stands in the way of a conversion: these partitions have types and room, and GUIDs that differ; the disk's isn't looked at
abbrev pub checked : ℕ → List Guid → Layout → List Partition → Result (List Partition) Refusal
checked b guids o ps =
    if has_unknown ps then Err UnknownCode
    else if no_room b o then Err NoRoomForGpt
    else if nat_le (length guids) (length ps) then Err NoFreshGuid
    else if has_twins (take (length ps) (drop 1 guids)) then Err SameGuid
    else Ok ps

-- `g`: each partition keeps its number and its sectors, and the labels stay
unfoldable pub converted : ℕ → List Guid → Layout → Result Layout Refusal
converted b guids o = do
  found ← partitions_in o.body
  ps ← checked b guids o found
  Ok (record { sectors = o.sectors; body = Gpt (gpt_of b o.sectors guids ps); labels = o.labels })
