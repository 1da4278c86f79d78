-- The chain of extended boot records that the logical partitions of a draft become.
use Rattle.std.specs.Prelude.{◌≡◌, ◌⊎◌, ℕ, ◌+◌, ◌-◌, Bool, List, [], ◌∷◌, ◌++◌, Option, Some, None, Result, Ok, Err, if◌then◌else◌}
use Rattle.std.specs.Prelude.{nat_eq, nat_le, nat_lt, ◌&&◌, not, false, true, count_by, flat_map, length}
use Rattle.std.specs.List.{insert, list_any}
use Rattle.std.specs.Option.{option_or, unwrap_or}
use Rattle.pt_bsd.specs.declared.label.Label.{Label}
use Rattle.pt_sector.specs.declared.address.Lba.{Lba}
use Rattle.pt_mbr.specs.Chain.{lba}
use Rattle.pt_mbr.specs.declared.ebr.Ebr.{Ebr}
use Rattle.pt_mbr.specs.declared.record.Record.{Record}
use Rattle.pt_members.specs.Members.{label_of}
use Rattle.pt_members.specs.declared.layout.Labelled.{Labelled}
use Rattle.pt_edit.specs.Space.{Area}
use Rattle.pt_edit.specs.declared.space.Run.{Run}
use Rattle.pt_drafts.specs.declared.fault.Key.TheVariants as key
use Rattle.pt_drafts.specs.declared.fault.TextFault.{TextFault}
use Rattle.pt_set.specs.declared.past.Logical.{Logical}
use Rattle.pt_set.specs.declared.past.Was.{Was}
use Rattle.pt_set.specs.declared.records.Later.{Later}
use Rattle.pt_set.specs.Entries.{run_length, with_label}
use Rattle.pt_set.specs.Faults.{◌>>=◌, at, fails_if, of}
use Rattle.pt_set.specs.Pasts.{kept, kept_at, was_logical}
use Rattle.pt_set.specs.Places.{IsPlaceIn, stated_by}
use Rattle.pt_set.specs.Records.{MbrFrame, is_past_record, record_label, record_with}

-- ## The sectors of extended boot records.

-- each is above the one before it
unfoldable pub rises : ℕ → List ℕ → Bool
rises s [] = true
rises s (t ∷ ts) = nat_lt s t && rises t ts

-- a chain begins at the extended partition's first sector, rises, and has 128 of them at most
abbrev pub is_chain : ℕ → List ℕ → Bool
is_chain start [] = false
is_chain start (s ∷ ss) = nat_eq s start && (rises s ss && nat_lt (length ss) 128)

-- before its logical partitions: as the text says, or else in the extended partition's first sector alone
abbrev pub links_for : ℕ → Option (List ℕ) → Result (List ℕ) TextFault
links_for start None = Ok (start ∷ [])
links_for start (Some ss) = if is_chain start ss then Ok ss else Err (of key.Chain)

-- one more comes between those below it and those above it
abbrev pub with_link : List ℕ → ℕ → List ℕ
with_link links s =
    if list_any (λ (t : ℕ). nat_eq t s) links then links else insert links (count_by (λ (t : ℕ). nat_lt t s) links) s

-- ## Where a logical partition lies, and where its extended boot record stands.

abbrev pub own_sector : ℕ → Run
own_sector s = record { first = s; last = s }

-- in the extended partition, in none of these runs, and behind a free sector where the text says no start
abbrev pub logical_area : Record → List Run → Area
logical_area x runs = record { low = x.start; high = x.start + x.size - 1; taken = runs; empties = Some [] }

-- a sector that isn't below this one
abbrev pub from_on : ℕ → Option ℕ → Option ℕ
from_on least None = None
from_on least (Some s) = if nat_le least s then Some s else None

-- where the text says the start: the sector of the record of the logical partition that started there
abbrev pub kept_for : List Logical → Option ℕ → Option ℕ
kept_for logicals None = None
kept_for logicals (Some start) = kept_at logicals start

-- the record of a new one: of the first the extended partition's first sector, and else the sector before the partition
abbrev pub new_at : ℕ → ℕ → ℕ → ℕ
new_at start least first = if nat_eq least start && nat_lt start first then start else first - 1

-- the text's, or else the one that was there, or else a new one
abbrev pub at_for : List Logical → ℕ → ℕ → Later → ℕ → ℕ
at_for logicals start least l first =
    unwrap_or (option_or l.part.at (from_on least (kept_for logicals l.part.start))) (new_at start least first)

-- it is behind that of the logical partition before it, and before the partition, as far as 32 bits reach
abbrev pub takes_record : ℕ → ℕ → ℕ → Bool
takes_record least first s = nat_le least s && (nat_le s first && nat_le (first - s) 4294967295)

-- ## What is made of some logical partitions: their labels, the sectors that aren't free, the lowest sector where the next one's record
-- may stand, those of all extended boot records, and the partitions.

pub record Row : Type 0 where
  pub labels : List Labelled
  pub runs : List Run
  pub least : ℕ
  pub links : List ℕ
  pub logicals : List Logical

-- the next one has number j + 5
abbrev pub with_logical : Row → ℕ → ℕ → Record → Option Label → Run → Row
with_logical s j at r label run = record {
  labels = with_label (5 + j) label s.labels;
  runs = s.runs ++ run ∷ own_sector at ∷ [];
  least = at + 1;
  links = with_link s.links at;
  logicals = s.logicals ++ record { at = at; partition = r } ∷ [];
}

-- logical partition j of the extended one, in a place, where this was there in it, with its record in a sector
unfoldable pub logical_over : MbrFrame → ℕ → Later → Row → Run → Option Was → ℕ → Result Row TextFault
logical_over f j l s run was sector = do
  _ ← fails_if (is_past_record (run_length run)) (at l.place key.Size)
  _ ← fails_if (not (takes_record s.least run.first sector)) (at l.place key.Record)
  label ← record_label f.bytes l.place was (label_of f.past.labels l.number) l.kind run l.part.bsd
  Ok (with_logical s j sector (record_with l.part l.kind was (run.first - sector) (run_length run)) label run)

-- what was there had the number that the text says
abbrev pub logical_at : MbrFrame → Record → ℕ → Later → Row → Run → Result Row TextFault
logical_at f x j l s run =
    logical_over f j l s run (kept (was_logical f.past.logicals l.number) run) (at_for f.past.logicals x.start s.least l run.first)

-- what it makes of what those before it made
abbrev pub IsEntered : MbrFrame → Record → ℕ → Later → Row → Result Row TextFault → Type 0
IsEntered f x j l s r =
    (place : Result Run TextFault) × IsPlaceIn f.bytes (logical_area x s.runs) l.place l.part.start l.part.extent place
    × (r ≡ (place >>= logical_at f x j l s))

-- logical partitions in order, from j on; the first fault ends them
abbrev pub AreEntered : MbrFrame → Record → ℕ → List Later → Row → Result Row TextFault → Type 0
AreEntered f x j [] s r = r ≡ Ok s
AreEntered f x j (l ∷ ls) s r =
    ((t : Row) × IsEntered f x j l s (Ok t) × AreEntered f x (j + 1) ls t r)
    ⊎ ((fault : TextFault) × IsEntered f x j l s (Err fault) × (r ≡ Err fault))

-- the sectors of a logical partition of which the text says start and size, and that of its record
abbrev pub lead_of : List Logical → Option ℕ → ℕ → ℕ
lead_of logicals at first = unwrap_or (option_or at (kept_at logicals first)) (first - 1)

abbrev pub held_by : List Logical → Option ℕ → Option Run → List Run
held_by logicals at None = []
held_by logicals at (Some run) = run ∷ own_sector (lead_of logicals at run.first) ∷ []

abbrev pub stated_logicals : ℕ → List Logical → List Later → List Run
stated_logicals b logicals later =
    flat_map (λ (l : Later). held_by logicals l.part.at (stated_by b l.part.start l.part.extent)) later

-- no logical partition
abbrev pub first_row : MbrFrame → Record → List Labelled → List Later → List ℕ → Row
first_row f x labels later links = record {
  labels = labels;
  runs = flat_map (λ (s : ℕ). own_sector s ∷ []) links ++ stated_logicals f.bytes f.past.logicals later;
  least = x.start;
  links = links;
  logicals = [];
}

-- ## The chain.

-- the logical partition whose record stands in a sector
unfoldable pub logical_in : List Logical → ℕ → Option Record
logical_in [] s = None
logical_in (l ∷ ls) s = if nat_eq l.at s then Some l.partition else logical_in ls s

abbrev pub next_of : List ℕ → Option Lba
next_of [] = None
next_of (s ∷ ss) = Some (lba s)

-- an extended boot record in each of these sectors, which links to the next, with its logical partition if it has one
unfoldable pub chain_of : List Logical → List ℕ → List Ebr
chain_of logicals [] = []
chain_of logicals (s ∷ ss) =
    record { at = lba s; logical = logical_in logicals s; next = next_of ss } ∷ chain_of logicals ss
