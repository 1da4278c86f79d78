-- Disks that stop and fail where that was chosen.
use Rattle.std.specs.Prelude.{List, map, ◌≡◌, ℕ, ◌-◌, ◌≤◌, Bool, length, zero, suc, ◌<◌, ◌+◌, ◌==◌, ◌||◌, false, [], ◌∷◌, min}
use Rattle.std.specs.Prelude.{slice_index_or, slice_index, if◌then◌else◌}
use Rattle.pt_sector.specs.Device.{Told, Moment, told_of}
use Rattle.pt_disks.specs.Memory.{reading, pending_writes}
use Rattle.pt_disks.specs.declared.in_memory.cache.WriteCache.{WriteCache}
use Rattle.pt_sector.specs.declared.disk.Fault.{Fault}
use Rattle.pt_disks.specs.declared.in_memory.crash.CrashDisk.{CrashDisk}
use Rattle.pt_sector.specs.Sectors.{Sectors, sector, Writes}

-- ## What a disk that stops and fails tells.

abbrev pub moment_of : {b : _} → WriteCache b → Moment
moment_of s = (s.durable.items, pending_writes s.pending.items)

abbrev pub moments : {b : _} → List (WriteCache b) → List Moment
moments past = map (λ (s : WriteCache _). moment_of s) past

abbrev pub crash_told : {b : _} → WriteCache b → List (WriteCache b) → Told
crash_told s past = told_of (reading s.pending.items s.durable.items) s.durable.items (pending_writes s.pending.items) (moments past)

-- ## A disk that stops and fails: what it tells, its room, and the call that fails.

abbrev pub content : {b : _} → CrashDisk b → Told
content d = crash_told d.cache d.past.items

abbrev pub sector_count : {b : _} → CrashDisk b → ℕ
sector_count d = length d.cache.durable.items

-- the faults of its calls that failed
abbrev pub faults_of : {b : _} → CrashDisk b → List Fault
faults_of d = d.failed.items

-- how many writes may be pending at once
abbrev pub pending_room : {b : _} → CrashDisk b → ℕ
pending_room d = d.cache.room

abbrev pub IsFull : {b : _} → CrashDisk b → Type 0
IsFull d = pending_room d ≤ length d.cache.pending.items

-- the number of the call that fails, counted from the next one as 1; 0 is none
abbrev pub fails_in : {b : _} → CrashDisk b → ℕ
fails_in d = d.fail_in

-- whether a write that fails reads as written
abbrev pub reads_failed : {b : _} → CrashDisk b → Bool
reads_failed d = d.kept

-- a call passes: its room and its way to fail stay
pub record CallPasses {b : _} (old new : CrashDisk b) : Type 0 where
  pub fails_sooner : fails_in new ≡ fails_in old - 1
  pub same_kept : reads_failed new ≡ reads_failed old
  pub same_room : pending_room new ≡ pending_room old

-- what a call that changes nothing leaves
pub record SameContent (old new : Told) : Type 0 where
  pub seen : new.seen ≡ old.seen
  pub durable : new.durable ≡ old.durable
  pub pending : new.pending ≡ old.pending

-- ## A stop by a list of choices.

-- the pending values of sector k, in the order of writing
abbrev pub values : Writes → ℕ → List (List ℕ)
values [] k = []
values (w ∷ ws) k = if w.0 == k then w.1 ∷ values ws k else values ws k

abbrev pub is_pending : Writes → ℕ → Bool
is_pending [] k = false
is_pending (w ∷ ws) k = (w.0 == k) || is_pending ws k

-- choice j of a sector: 0 is the durable value, and past the last it is the last
abbrev pub chosen : List ℕ → List (List ℕ) → ℕ → List ℕ
chosen s vs j = slice_index_or (s ∷ vs) (min j (length vs)) s

-- how many sectors below k have pending values
abbrev pub pending_below : Writes → ℕ → ℕ
pending_below ws zero = 0
pending_below ws (suc k) = if is_pending ws k then pending_below ws k + 1 else pending_below ws k

-- c is what a stop leaves of d: each sector as its choice says, the choices going by the sectors with pending values
pub record IsPicked (d : Sectors) (ws : Writes) (cs : List ℕ) (c : Sectors) : Type 0 where
  pub same_count : length c ≡ length d
  pub each : (k : ℕ) → k < length d → sector c k ≡ chosen (sector d k) (values ws k) (slice_index cs (pending_below ws k))
