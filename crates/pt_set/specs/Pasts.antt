-- What a draft of an MBR keeps of the MBR that was there.
use Rattle.std.specs.Prelude.{ℕ, ◌+◌, ◌-◌, Bool, List, [], ◌∷◌, Option, Some, None, if◌then◌else◌, flat_map, nat_eq, ◌&&◌, slice_index_or}
use Rattle.std.specs.Prelude.{false}
use Rattle.std.specs.List.{slice_get}
use Rattle.std.specs.Option.{option_map}
use Rattle.pt_mbr.specs.declared.ebr.Ebr.{Ebr}
use Rattle.pt_mbr.specs.declared.record.Record.{Record}
use Rattle.pt_members.specs.declared.layout.Labelled.{Labelled}
use Rattle.pt_edit.specs.Chains.{farthest}
use Rattle.pt_edit.specs.Records.{is_slice}
use Rattle.pt_edit.specs.declared.space.Run.{Run}
use Rattle.pt_set.specs.declared.past.Logical.{Logical}
use Rattle.pt_set.specs.declared.past.Was.{Was}
use Rattle.pt_set.specs.Entries.{run_length}

-- ## The MBR that was there: its records, its logical partitions in the order of their numbers, which count from 5, and its labels.

pub record Past : Type 0 where
  pub records : List (Option Record)
  pub logicals : List Logical
  pub labels : List Labelled

-- the logical partition of an extended boot record, with its sector
abbrev pub logical_in : ℕ → Option Record → List Logical
logical_in at None = []
logical_in at (Some r) = record { at = at; partition = r } ∷ []

abbrev pub logicals_in : List Ebr → List Logical
logicals_in chain = flat_map (λ (e : Ebr). logical_in e.at.0 e.logical) chain

abbrev pub past_of : List (Option Record) → List Ebr → List Labelled → Past
past_of records chain labels = record { records = records; logicals = logicals_in chain; labels = labels }

-- ## What was there under a number: its first sector on the disk, and its record.

abbrev pub record_was : Record → Was
record_was r = record { first = r.start; partition = r }

abbrev pub was_record : List (Option Record) → ℕ → Option Was
was_record records n = option_map record_was (slice_index_or records (n - 1) None)

abbrev pub logical_was : Logical → Was
logical_was l = record { first = l.at + l.partition.start; partition = l.partition }

abbrev pub was_logical : List Logical → ℕ → Option Was
was_logical logicals n = option_map logical_was (slice_get logicals (n - 5))

-- where it was in these sectors
abbrev pub is_there : Was → Run → Bool
is_there w run = nat_eq w.first run.first && nat_eq w.partition.size (run_length run)

abbrev pub kept : Option Was → Run → Option Was
kept None run = None
kept (Some w) run = if is_there w run then Some w else None

-- ## What is kept of it: the CHS bytes, or else those of a place that CHS can't say; and whether it is a slice, whose label is kept.

abbrev pub start_chs_of : Option Was → List ℕ
start_chs_of None = farthest
start_chs_of (Some w) = w.partition.start_chs

abbrev pub end_chs_of : Option Was → List ℕ
end_chs_of None = farthest
end_chs_of (Some w) = w.partition.end_chs

abbrev pub was_slice : ℕ → Option Was → Bool
was_slice b None = false
was_slice b (Some w) = is_slice b w.partition.kind

-- ## The sector of the extended boot record of the logical partition that started in a sector.

abbrev pub starts_at : Logical → ℕ → Bool
starts_at l start = nat_eq (l.at + l.partition.start) start

unfoldable pub kept_at : List Logical → ℕ → Option ℕ
kept_at [] start = None
kept_at (l ∷ ls) start = if starts_at l start then Some l.at else kept_at ls start
