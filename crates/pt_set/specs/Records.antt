-- The records that the partitions of a draft of an MBR become. Numbers 1 to 4 are theirs; logical partitions are made after them.
use Rattle.std.specs.Prelude.{◌≡◌, ◌⊎◌, ℕ, ◌+◌, ◌-◌, Bool, not, List, [], ◌∷◌, ◌++◌, Option, Some, None, Result, Ok, Err, if◌then◌else◌}
use Rattle.std.specs.Prelude.{nat_eq, nat_lt, ◌&&◌, false, true, flat_map, min, ok_or, replicate, slice_index_or, slice_set, count_by}
use Rattle.std.specs.List.{insert, list_any}
use Rattle.std.specs.Option.{unwrap_or, is_some, is_none}
use Rattle.pt_bsd.specs.declared.label.Label.{Label}
use Rattle.pt_mbr.specs.Records.{is_extended}
use Rattle.pt_mbr.specs.declared.record.Record.{Record}
use Rattle.pt_members.specs.Members.{label_of}
use Rattle.pt_members.specs.declared.layout.Labelled.{Labelled}
use Rattle.pt_edit.specs.Records.{is_slice}
use Rattle.pt_edit.specs.Space.{Area}
use Rattle.pt_edit.specs.declared.space.Run.{Run}
use Rattle.pt_drafts.specs.declared.draft.Extent.{Extent}
use Rattle.pt_drafts.specs.declared.draft.Extent.TheVariants.{Sectors, Bytes, Last}
use Rattle.pt_drafts.specs.declared.draft.NamedType.{NamedType}
use Rattle.pt_drafts.specs.declared.draft.PartDraft.{PartDraft}
use Rattle.pt_drafts.specs.declared.fault.Key.{Key}
use Rattle.pt_drafts.specs.declared.fault.Key.TheVariants as key
use Rattle.pt_drafts.specs.declared.fault.TextFault.{TextFault}
use Rattle.pt_set.specs.declared.records.Known.{Known}
use Rattle.pt_set.specs.declared.records.Later.{Later}
use Rattle.pt_set.specs.declared.past.Was.{Was}
use Rattle.pt_set.specs.Entries.{first_given, gives, label_as, no_foreign, run_length, with_label}
use Rattle.pt_set.specs.Faults.{◌>>=◌, at, fails_if}
use Rattle.pt_set.specs.Pasts.{Past, end_chs_of, kept, start_chs_of, was_record, was_slice}
use Rattle.pt_set.specs.Places.{IsPlaceIn, as_list, stated_by}

-- what partitions are made by: the size of sectors, how many there are, the MBR that was there, and all partitions of the text
pub record MbrFrame : Type 0 where
  pub bytes : ℕ
  pub sectors : ℕ
  pub past : Past
  pub parts : List PartDraft

-- ## What a partition of an MBR doesn't have: the first of these that is given.

abbrev pub says_last : Option Extent → Bool
says_last None = false
says_last (Some (Sectors count)) = false
says_last (Some (Bytes count)) = false
says_last (Some (Last last)) = true

unfoldable pub foreign_logical : PartDraft → Option Key
foreign_logical p =
    first_given (is_some p.unique) key.Uuid
    (first_given (is_some p.name) key.Name
    (first_given (is_some p.attributes) key.Attributes
    (first_given (says_last p.extent) key.Last
    (first_given (is_some p.offset) key.Offset None))))

-- a record of sector 0 has no extended boot record either
abbrev pub foreign_record : PartDraft → Option Key
foreign_record p = first_given (is_some p.at) key.Record (foreign_logical p)

-- ## The number.

-- that of a logical partition
abbrev pub logical_number : Option ℕ → Option ℕ
logical_number None = None
logical_number (Some n) = if nat_lt n 5 then None else Some n

-- a record of this number is unused
abbrev pub is_unused : List (Option Record) → ℕ → Bool
is_unused records n = is_none (slice_index_or records (n - 1) None)

-- and the text doesn't give its number
abbrev pub is_open : List PartDraft → List (Option Record) → ℕ → Bool
is_open parts records n = is_unused records n && not (gives parts n)

-- the lowest such number
unfoldable pub lowest_of_four : List PartDraft → List (Option Record) → Option ℕ
lowest_of_four parts records =
    if is_open parts records 1 then Some 1
    else if is_open parts records 2 then Some 2
    else if is_open parts records 3 then Some 3
    else if is_open parts records 4 then Some 4
    else None

-- the text's, where it is one of the four and unused; or else the lowest
unfoldable pub record_number : List PartDraft → List (Option Record) → Option ℕ → Option ℕ
record_number parts records (Some n) = if not (nat_eq n 0) && (nat_lt n 5 && is_unused records n) then Some n else None
record_number parts records None = lowest_of_four parts records

-- ## The type: 83 where the text has none.

abbrev pub record_kind : Option NamedType → Option ℕ
record_kind None = Some 0x83
record_kind (Some t) = t.mbr

-- ## A partition in its place.

-- its record: what the text says, or else what was there in these sectors, or else what is written of a new one
abbrev pub record_with : PartDraft → ℕ → Option Was → ℕ → ℕ → Record
record_with p kind was start size = record {
  boot = unwrap_or p.boot 0;
  start_chs = unwrap_or p.start_chs (start_chs_of was);
  kind = kind;
  end_chs = unwrap_or p.end_chs (end_chs_of was);
  start = start;
  size = size;
}

-- its label: the text's, or else that of the slice that was there in these sectors, or else an empty one
abbrev pub record_label : ℕ → ℕ → Option Was → Option Label → ℕ → Run → Option (Option Label) → Result (Option Label) TextFault
record_label b k was label kind run given = label_as k (is_slice b kind) (was_slice b was) label run given

-- a number that 32 bits can't say
abbrev pub is_past_record : ℕ → Bool
is_past_record n = nat_lt 4294967295 n

-- ## What is made of some partitions of the text: the records, their labels, the sectors among them that aren't free, the extended one of
-- them, and the logical partitions in the order of their numbers, which are made later.

pub record Stage : Type 0 where
  pub records : List (Option Record)
  pub labels : List Labelled
  pub runs : List Run
  pub extended : Option Record
  pub later : List Later

-- ## A record.

-- what is known of it before its place is: there is one extended record at most
unfoldable pub known_of : List PartDraft → ℕ → PartDraft → List (Option Record) → Option Record → Result Known TextFault
known_of parts k p records extended = do
  _ ← no_foreign k (foreign_record p)
  number ← ok_or (record_number parts records p.number) (at k key.Number)
  kind ← ok_or (record_kind p.kind) (at k key.Type)
  _ ← fails_if (is_extended kind && is_some extended) (at k key.Type)
  Ok (record { number = number; kind = kind })

-- where records may lie on a disk of n sectors: from sector 1 on, as far as the disk and 32 bits reach
abbrev pub disk_area : ℕ → List Run → Area
disk_area n runs = record { low = 1; high = min (n - 1) 4294967295; taken = runs; empties = None }

abbrev pub new_extended : Option Record → Record → Option Record
new_extended extended r = if is_extended r.kind then Some r else extended

abbrev pub with_record : Stage → ℕ → Record → Option Label → Run → Stage
with_record s n r label run = record {
  records = slice_set s.records (n - 1) (Some r);
  labels = with_label n label s.labels;
  runs = s.runs ++ run ∷ [];
  extended = new_extended s.extended r;
  later = s.later;
}

-- where this was there in its place
unfoldable pub record_over : MbrFrame → ℕ → PartDraft → Stage → Known → Run → Option Was → Result Stage TextFault
record_over f k p s known run was = do
  _ ← fails_if (is_past_record run.first) (at k key.Start)
  _ ← fails_if (is_past_record (run_length run)) (at k key.Size)
  label ← record_label f.bytes k was (label_of f.past.labels known.number) known.kind run p.bsd
  Ok (with_record s known.number (record_with p known.kind was run.first (run_length run)) label run)

abbrev pub record_at : MbrFrame → ℕ → PartDraft → Stage → Known → Run → Result Stage TextFault
record_at f k p s known run = record_over f k p s known run (kept (was_record f.past.records known.number) run)

abbrev pub IsRecordOf : MbrFrame → ℕ → PartDraft → Stage → Result Known TextFault → Result Stage TextFault → Type 0
IsRecordOf f k p s (Err fault) r = r ≡ Err fault
IsRecordOf f k p s (Ok known) r =
    (place : Result Run TextFault) × IsPlaceIn f.bytes (disk_area f.sectors s.runs) k p.start p.extent place
    × (r ≡ (place >>= record_at f k p s known))

abbrev pub IsRecord : MbrFrame → ℕ → PartDraft → Stage → Result Stage TextFault → Type 0
IsRecord f k p s r = IsRecordOf f k p s (known_of f.parts k p s.records s.extended) r

-- ## A logical partition, which waits for the records.

-- one of them has this number
abbrev pub has_number : List Later → ℕ → Bool
has_number later n = list_any (λ (l : Later). nat_eq l.number n) later

-- it is put behind those of lower numbers
abbrev pub count_lower : List Later → ℕ → ℕ
count_lower later n = count_by (λ (l : Later). nat_lt l.number n) later

abbrev pub with_later : Stage → Later → Stage
with_later s l = record {
  records = s.records;
  labels = s.labels;
  runs = s.runs;
  extended = s.extended;
  later = insert s.later (count_lower s.later l.number) l;
}

unfoldable pub later_of : ℕ → PartDraft → Stage → ℕ → Result Stage TextFault
later_of k p s n = do
  _ ← no_foreign k (foreign_logical p)
  _ ← fails_if (has_number s.later n) (at k key.Number)
  kind ← ok_or (record_kind p.kind) (at k key.Type)
  _ ← fails_if (is_extended kind) (at k key.Type)
  Ok (with_later s (record { place = k; number = n; kind = kind; part = p }))

-- ## All partitions of the text.

abbrev pub IsStagedAs : MbrFrame → ℕ → PartDraft → Stage → Option ℕ → Result Stage TextFault → Type 0
IsStagedAs f k p s (Some n) r = r ≡ later_of k p s n
IsStagedAs f k p s None r = IsRecord f k p s r

-- what partition k makes of what those before it made
abbrev pub IsStaged : MbrFrame → ℕ → PartDraft → Stage → Result Stage TextFault → Type 0
IsStaged f k p s r = IsStagedAs f k p s (logical_number p.number) r

-- the partitions in order, from k on; the first fault ends them
abbrev pub AreStaged : MbrFrame → ℕ → List PartDraft → Stage → Result Stage TextFault → Type 0
AreStaged f k [] s r = r ≡ Ok s
AreStaged f k (p ∷ ps) s r =
    ((t : Stage) × IsStaged f k p s (Ok t) × AreStaged f (k + 1) ps t r)
    ⊎ ((fault : TextFault) × IsStaged f k p s (Err fault) × (r ≡ Err fault))

-- the sectors of a record of which the text says start and size
abbrev pub stated_as : ℕ → PartDraft → Option ℕ → List Run
stated_as b p (Some n) = []
stated_as b p None = as_list (stated_by b p.start p.extent)

abbrev pub stated_records : ℕ → List PartDraft → List Run
stated_records b parts = flat_map (λ (p : PartDraft). stated_as b p (logical_number p.number)) parts

-- no record, with the sectors taken that the text gives by start and size
abbrev pub first_stage : MbrFrame → Stage
first_stage f = record {
  records = replicate 4 None;
  labels = [];
  runs = stated_records f.bytes f.parts;
  extended = None;
  later = [];
}
