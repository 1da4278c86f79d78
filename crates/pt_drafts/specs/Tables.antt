-- What a text says of a table.
use Rattle.std.specs.Prelude.{ℕ, List, [], ◌∷◌, ◌+◌, ◌==◌, Bool, true, false, Option, Some, None, Result, Ok, Err, if◌then◌else◌, codes}
use Rattle.std.specs.Prelude.{is_some, bytes_eq, unwrap_or}
use Rattle.std.specs.Prelude.{◌≡◌, option_map, option_and_then}
use Rattle.serde_json.specs.Data.{Data}
use Rattle.serde_json.specs.Find.{as_array, as_object, as_str, get}
use Rattle.serde_json.specs.Read.{read}
use Rattle.pt_drafts.specs.Members.{check, given, has_only, is_text}
use Rattle.pt_drafts.specs.Members.{◌>>=◌}
use Rattle.pt_drafts.specs.Parts.{part_in}
use Rattle.pt_drafts.specs.Texts.{by_text, count_of, disk_of, kind_of}
use Rattle.pt_drafts.specs.Values.{each_of, list_in, whole}
use Rattle.pt_drafts.specs.declared.draft.Draft.{Draft}
use Rattle.pt_drafts.specs.declared.draft.PartDraft.{PartDraft}
use Rattle.pt_drafts.specs.declared.fault.DraftError.{DraftError}
use Rattle.pt_drafts.specs.declared.fault.DraftError.TheVariants.{Fault, Memory}
use Rattle.pt_drafts.specs.declared.fault.Key.{Key}
use Rattle.pt_drafts.specs.declared.fault.Key.TheVariants as key
use Rattle.pt_drafts.specs.declared.fault.TextFault.{TextFault}
use Rattle.pt_drafts.specs.declared.table.Head.{Head}
use Rattle.pt_drafts.specs.declared.table.Room.{Room}

-- ## The members of a table, but for its partitions.

-- what stands under `unit`, where something does, is this text
abbrev pub is_sectors : Option Data → Bool
is_sectors None = true
is_sectors (Some d) = unwrap_or (option_map (λ text. bytes_eq text (codes "sectors")) (as_str d)) false

abbrev pub head_in : Data → Result Head Key
head_in d = do
  label ← given (by_text kind_of) (codes "label") key.Label d
  _ ← check key.Device (is_text (codes "device") d)
  _ ← check key.Unit (is_sectors (get (codes "unit") d))
  sector_size ← given whole (codes "sectorsize") key.SectorSize d
  sectors ← given whole (codes "sectors") key.Sectors d
  disk ← given (by_text disk_of) (codes "id") key.Id d
  Ok (record { label = label; sector_size = sector_size; sectors = sectors; disk = disk })

-- `entries` and `table-length` say one number
abbrev pub entries_from : Option ℕ → Option ℕ → Result (Option ℕ) Key
entries_from None count = Ok count
entries_from (Some n) None = Ok (Some n)
entries_from (Some n) (Some m) = if n == m then Ok (Some n) else Err key.TableLength

abbrev pub entries_in : Data → Result (Option ℕ) Key
entries_in d = do
  entries ← given whole (codes "entries") key.Entries d
  count ← given count_of (codes "table-length") key.TableLength d
  entries_from entries count

abbrev pub room_in : Data → Result Room Key
room_in d = do
  first ← given whole (codes "firstlba") key.FirstLba d
  last ← given whole (codes "lastlba") key.LastLba d
  entries ← entries_in d
  Ok (record { first = first; last = last; entries = entries })

-- ## Partitions.

-- an array, where something stands there
abbrev pub is_list : Option Data → Bool
is_list None = true
is_list (Some d) = is_some (as_array d)

-- the objects of an array, where there is one
abbrev pub listed : Option Data → List Data
listed None = []
listed (Some d) = unwrap_or (list_in d) []

-- a fault in the table, or in an object of `partitions`
abbrev pub fault_in : Option ℕ → Key → TextFault
fault_in part key = record { key = key; part = part }

abbrev pub told : {A : Type 0} → Option ℕ → Result A Key → Result A TextFault
told part (Ok x) = Ok x
told part (Err key) = Err (fault_in part key)

-- the partitions, the first of which has this number in the text
unfoldable pub parts_from : ℕ → List Data → Result (List PartDraft) TextFault
parts_from n [] = Ok []
parts_from n (d ∷ ds) = do
  part ← told (Some n) (part_in d)
  parts ← parts_from (n + 1) ds
  Ok (part ∷ parts)

-- ## The whole text.

abbrev pub table_names : List (List ℕ)
table_names =
    codes "label" ∷ codes "device" ∷ codes "unit" ∷ codes "sectorsize" ∷ codes "sectors" ∷ codes "id" ∷ codes "firstlba"
    ∷ codes "lastlba" ∷ codes "entries" ∷ codes "table-length" ∷ codes "grain" ∷ codes "partitions" ∷ codes "chain" ∷ []

abbrev pub draft_with : Head → Room → Option (List ℕ) → List PartDraft → Draft
draft_with head room chain parts = record {
  label = head.label;
  disk = head.disk;
  first = room.first;
  last = room.last;
  entries = room.entries;
  sectors = head.sectors;
  sector_size = head.sector_size;
  chain = chain;
  parts = parts;
}

-- Each name has to be known, and then each member has to stand for something.
unfoldable pub table_in : Data → Result Draft TextFault
table_in d = do
  _ ← told None (check key.Unknown (has_only table_names d))
  head ← told None (head_in d)
  room ← told None (room_in d)
  _ ← told None (check key.Partitions (is_list (get (codes "partitions") d)))
  chain ← told None (given (each_of whole) (codes "chain") key.Chain d)
  parts ← parts_from 1 (listed (get (codes "partitions") d))
  Ok (draft_with head room chain parts)

abbrev pub if_object : Data → Option Data
if_object d = if is_some (as_object d) then Some d else None

-- the only member of an object, `partitiontable`, which is an object
abbrev pub only_table : Data → Option Data
only_table d = if has_only (codes "partitiontable" ∷ []) d then option_and_then if_object (get (codes "partitiontable") d) else None

abbrev pub of_table : Option Data → Result Draft TextFault
of_table None = Err (fault_in None key.Table)
of_table (Some d) = table_in d

abbrev pub of_value : Option Data → Result Draft TextFault
of_value None = Err (fault_in None key.Text)
of_value (Some d) = of_table (only_table d)

-- what a text says, or its first fault
unfoldable pub draft_of : List ℕ → Result Draft TextFault
draft_of text = of_value (read text)

-- an error tells the fault that a text has; it may also be that there is no memory
abbrev pub Tells : {A : Type 0} → Result A TextFault → DraftError → Type 0
Tells meaning (Fault fault) = meaning ≡ Err fault
Tells meaning Memory = Unit {0}
