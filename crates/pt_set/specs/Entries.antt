-- The entries that the partitions of a draft become.
use Rattle.std.specs.Prelude.{ℕ, ◌+◌, ◌-◌, Bool, not, List, [], ◌∷◌, ◌++◌, length, Option, Some, None, Result, Ok, Err, if◌then◌else◌}
use Rattle.std.specs.Prelude.{nat_eq, nat_lt, ◌||◌, ◌&&◌, false, replicate, slice_index_or, slice_set}
use Rattle.std.specs.Option.{option_map, unwrap_or, is_some, is_none}
use Rattle.pt_guid.specs.Codes.{type_of}
use Rattle.pt_guid.specs.declared.guid.Guid.{Guid}
use Rattle.pt_bsd.specs.Labels.{empty_of}
use Rattle.pt_bsd.specs.declared.label.Label.{Label}
use Rattle.pt_gpt.specs.declared.entry.Entry.{Entry}
use Rattle.pt_gpt.specs.declared.table.Table.{Table}
use Rattle.pt_members.specs.declared.layout.Labelled.{Labelled}
use Rattle.pt_edit.specs.Entries.{is_slice}
use Rattle.pt_edit.specs.SliceLabels.{with_new_label}
use Rattle.pt_edit.specs.declared.space.Run.{Run}
use Rattle.pt_drafts.specs.declared.fault.Key.{Key}
use Rattle.pt_drafts.specs.declared.fault.Key.TheVariants as key
use Rattle.pt_drafts.specs.declared.draft.NamedType.{NamedType}
use Rattle.pt_drafts.specs.declared.draft.PartDraft.{PartDraft}
use Rattle.pt_drafts.specs.declared.fault.TextFault.{TextFault}
use Rattle.pt_set.specs.declared.head.Named.{Named}
use Rattle.pt_set.specs.Faults.{at}
use Rattle.pt_set.specs.Heads.{next_named}

-- ## What an entry of a GPT doesn't have: the first of these that is given.

abbrev pub first_given : Bool → Key → Option Key → Option Key
first_given is_given key others = if is_given then Some key else others

unfoldable pub foreign_key : PartDraft → Option Key
foreign_key p =
    first_given (is_some p.at) key.Record
    (first_given (is_some p.offset) key.Offset
    (first_given (is_some p.boot) key.Bootable
    (first_given (is_some p.start_chs) key.StartChs
    (first_given (is_some p.end_chs) key.EndChs None))))

abbrev pub no_foreign : ℕ → Option Key → Result (Unit {0}) TextFault
no_foreign k None = Ok tt
no_foreign k (Some it) = Err (at k it)

-- ## The number.

abbrev pub is_number : ℕ → Option ℕ → Bool
is_number n None = false
is_number n (Some m) = nat_eq m n

-- a partition of the text is given this number
unfoldable pub gives : List PartDraft → ℕ → Bool
gives [] n = false
gives (p ∷ ps) n = is_number n p.number || gives ps n

-- an entry that is unused, and whose number the text doesn't give
abbrev pub is_open : List PartDraft → ℕ → Option Entry → Bool
is_open parts n e = is_none e && not (gives parts n)

-- the lowest such number from n on, of the entries from there on
unfoldable pub lowest : List PartDraft → ℕ → List (Option Entry) → Option ℕ
lowest parts n [] = None
lowest parts n (e ∷ es) = if is_open parts n e then Some n else lowest parts (n + 1) es

-- an entry of this number is there, and unused
abbrev pub is_unused : List (Option Entry) → ℕ → Bool
is_unused entries n = not (nat_eq n 0) && (not (nat_lt (length entries) n) && is_none (slice_index_or entries (n - 1) None))

unfoldable pub number_for : List PartDraft → List (Option Entry) → Option ℕ → Option ℕ
number_for parts entries (Some n) = if is_unused entries n then Some n else None
number_for parts entries None = lowest parts 1 entries

-- ## The type: a Linux filesystem's where the text has none.

abbrev pub guid_of : List ℕ → Guid
guid_of bytes = record { 0 = bytes }

abbrev pub kind_for : Option NamedType → Option Guid
kind_for None = option_map guid_of (type_of 0x8300)
kind_for (Some t) = t.gpt

-- ## What was there under a number.

abbrev pub entry_at : List (Option Entry) → ℕ → Option Entry
entry_at entries n = if nat_eq n 0 then None else slice_index_or entries (n - 1) None

abbrev pub old_entry : Option Table → ℕ → Option Entry
old_entry None n = None
old_entry (Some t) n = entry_at t.entries n

-- ## The partition's own GUID: the text's, or else that of the entry that was there, or else the next fresh one.

abbrev pub unique_for : List Guid → ℕ → Option Entry → Option Guid → Option Named
unique_for fresh taken was (Some guid) = Some (record { guid = guid; taken = taken })
unique_for fresh taken (Some e) None = Some (record { guid = e.unique; taken = taken })
unique_for fresh taken None None = next_named fresh taken

-- ## The label of a slice: the text's, or else that of the slice of this number that was there in the same sectors, or else an empty one.

abbrev pub was_there : ℕ → Option Entry → Run → Bool
was_there b None run = false
was_there b (Some e) run = is_slice b e.kind.0 && (nat_eq e.first run.first && nat_eq e.last run.last)

abbrev pub run_length : Run → ℕ
run_length run = run.last - run.first + 1

abbrev pub no_slice_has : ℕ → Bool
no_slice_has count = nat_lt count 2 || nat_lt 4294967295 count

abbrev pub label_by : ℕ → Bool → Option Label → Run → Result (Option Label) TextFault
label_by k was label run =
    if was then Ok label
    else if no_slice_has (run_length run) then Err (at k key.Size) else Ok (Some (empty_of (run_length run)))

-- of a slice or of another partition, where a slice was or wasn't
unfoldable pub label_as : ℕ → Bool → Bool → Option Label → Run → Option (Option Label) → Result (Option Label) TextFault
label_as k slice was label run (Some None) = Ok None
label_as k slice was label run (Some (Some l)) = if slice then Ok (Some l) else Err (at k key.Bsd)
label_as k slice was label run None = if slice then label_by k was label run else Ok None

abbrev pub label_for : ℕ → ℕ → Option Entry → Option Label → Guid → Run → Option (Option Label) → Result (Option Label) TextFault
label_for b k was label kind run given = label_as k (is_slice b kind.0) (was_there b was run) label run given

-- ## The entry.

abbrev pub entry_of : PartDraft → Guid → Guid → Run → Entry
entry_of p kind unique run = record {
  kind = kind;
  unique = unique;
  first = run.first;
  last = run.last;
  attributes = unwrap_or p.attributes 0;
  name = unwrap_or p.name (replicate 36 0);
}

-- what is made of some partitions: entries, labels, the sectors that aren't free, and how many fresh GUIDs are taken
pub record State : Type 0 where
  pub entries : List (Option Entry)
  pub labels : List Labelled
  pub runs : List Run
  pub taken : ℕ

abbrev pub with_label : ℕ → Option Label → List Labelled → List Labelled
with_label n None labels = labels
with_label n (Some l) labels = with_new_label n l labels

abbrev pub with_part : State → ℕ → Entry → Option Label → Run → ℕ → State
with_part s n e label run taken = record {
  entries = slice_set s.entries (n - 1) (Some e);
  labels = with_label n label s.labels;
  runs = s.runs ++ run ∷ [];
  taken = taken;
}
