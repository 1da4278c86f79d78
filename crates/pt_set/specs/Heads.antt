-- What a draft of a GPT says of the table itself, with what it leaves out.
use Rattle.std.specs.Prelude.{ℕ, ◌+◌, ◌-◌, ◌||◌, List, length, Option, Some, None, Result, Ok, Err, if◌then◌else◌}
use Rattle.std.specs.Prelude.{nat_eq, nat_lt, ok_or}
use Rattle.std.specs.List.{slice_get}
use Rattle.std.specs.Option.{option_map, option_or, unwrap_or, is_some}
use Rattle.pt_guid.specs.declared.guid.Guid.{Guid}
use Rattle.pt_gpt.specs.Copies.{edge}
use Rattle.pt_gpt.specs.declared.table.Table.{Table}
use Rattle.pt_drafts.specs.declared.draft.DiskId.{DiskId}
use Rattle.pt_drafts.specs.declared.draft.DiskId.TheVariants as id
use Rattle.pt_drafts.specs.declared.draft.Draft.{Draft}
use Rattle.pt_drafts.specs.declared.fault.Key.TheVariants as key
use Rattle.pt_drafts.specs.declared.fault.TextFault.{TextFault}
use Rattle.pt_set.specs.declared.head.Head.{Head}
use Rattle.pt_set.specs.declared.head.Named.{Named}
use Rattle.pt_set.specs.Faults.{◌>>=◌, of, fails_if}

-- the next fresh GUID, after this many are taken
abbrev pub next_named : List Guid → ℕ → Option Named
next_named fresh taken = option_map (λ guid. record { guid = guid; taken = taken + 1 }) (slice_get fresh taken)

-- how many entries the array has: the text's number, or else that of the table that was there, or else 128; 1 to 128
unfoldable pub count_for : Option Table → Option ℕ → Result ℕ TextFault
count_for old entries =
    let count : ℕ = unwrap_or (option_or entries (option_map (λ t. length t.entries) old)) 128 in
    if nat_eq count 0 || nat_lt 128 count then Err (of key.Entries) else Ok count

-- the disk's GUID: the text's, or else that of the table that was there, or else the first fresh one
abbrev pub disk_for : List Guid → Option Table → Option DiskId → Option Named
disk_for fresh old (Some (id.Guid guid)) = Some (record { guid = guid; taken = 0 })
disk_for fresh old (Some id.Signature) = None
disk_for fresh (Some t) None = Some (record { guid = t.disk; taken = 0 })
disk_for fresh None None = next_named fresh 0

-- the usable sectors: the first is the text's, or else that of the table that was there, or else the lowest that a GPT allows, and the
-- last the text's, or else the highest that this disk allows
abbrev pub first_for : ℕ → Option Table → Option ℕ → ℕ
first_for b old first = unwrap_or (option_or first (option_map (λ t. t.first) old)) (edge b)

abbrev pub last_for : ℕ → ℕ → Option ℕ → ℕ
last_for b n last = unwrap_or last (n - edge b)

-- the table itself, on a disk of n sectors of b bytes
unfoldable pub head_for : ℕ → ℕ → Option Table → List Guid → Draft → Result Head TextFault
head_for b n old fresh d = do
  _ ← fails_if (is_some d.chain) (of key.Chain)
  count ← count_for old d.entries
  _ ← fails_if (nat_lt count (length d.parts)) (of key.Partitions)
  disk ← ok_or (disk_for fresh old d.disk) (of key.Id)
  Ok (record { disk = disk; first = first_for b old d.first; last = last_for b n d.last; count = count })
