-- What calls that only read leave, and what an overlay shows.
use Rattle.std.specs.Prelude.{◌≡◌, ℕ, List, ◌∷◌, ◌++◌, Option, Some, None, ◌-◌, [], map, vec_len}
use Rattle.pt_sector.specs.Device.{Untouched, Told, Moment, told_of, IsReadIn}
use Rattle.pt_sector.specs.declared.disk.Fault.{Fault}
use Rattle.pt_sector.specs.declared.disk.Fault.TheVariants.{Read}
use Rattle.pt_sector.specs.declared.disk.Disk.{Ghosts}
use Rattle.pt_sector.specs.declared.reading.FailedRead.{FailedRead}
use Rattle.pt_sector.specs.declared.reading.Failure.{Failure}
use Rattle.pt_sector.specs.declared.reading.Failure.TheVariants as failure
use Rattle.pt_sector.specs.Sectors.{Sectors, Writes, written, puts_as_writes, Has}
use Rattle.pt_sector.specs.declared.overlay.Overlay.{Overlay}
use Rattle.pt_sector.specs.declared.own.Own.{Own}
use Rattle.pt_sector.specs.declared.room.Room.{Room}

-- ## Calls that only read, by the ghosts of a disk.

-- a call that only reads: the disk is the same in all that its ghosts say, but for faults of reads
abbrev pub OnlyReads : {D B : _} → Ghosts D B → D → D → Type 0
OnlyReads g old new = Untouched g.count g.name g.reads g.tells g.told g.faults old new

-- a disk above reads through to one that it borrows: that one was only read, and the same faults came to both
pub record ReadsThrough {D B : _} (g : Ghosts D B) (old new : D) (above now_above : List Fault) : Type 0 where
  pub below : OnlyReads g old new
  pub more : List Fault
  pub come_above : now_above ≡ above ++ more
  pub come_below : g.faults new ≡ g.faults old ++ more

-- the fault that a failed read is
abbrev pub read_of : FailedRead → Option Fault
read_of e = Some (Read e.0)

-- the fault that a failure is, if it is the device's
abbrev pub fault_of : Failure → Option Fault
fault_of (failure.Device at) = Some (Read at)
fault_of failure.Memory = None

-- the sector whose read failed is one of these
abbrev pub FailedIn : (ℕ → Type 0) → Failure → Type 0
FailedIn S (failure.Device at) = S at.0
FailedIn S failure.Memory = Unit {0}

-- ## What an overlay tells.

-- the sectors that are kept, each with its bytes
abbrev pub own_writes : {b : _} → Own b → Writes
own_writes own = puts_as_writes own.puts.items own.sectors.items

-- the borrowed disk with the overlay's own sectors written
abbrev pub shown : {b : _} → Sectors → Own b → Sectors
shown seen own = written (own_writes own) seen

abbrev pub moments : {b : _} → Sectors → List (Own b) → List Moment
moments seen past = map (λ (own : Own _). (shown seen own, [])) past

-- all is durable, and nothing pending
abbrev pub overlay_told : {b : _} → Sectors → Own b → List (Own b) → Told
overlay_told seen own past = told_of (shown seen own) (shown seen own) [] (moments seen past)

abbrev pub content : {D : Type 0} {b : _} → (D → Told) → Overlay D b (Own b) → Told
content told_below o = overlay_told (told_below o.disk.now).seen o.own o.past.items

-- sector k is one of its own
abbrev pub IsOwnSector : {D : Type 0} {b : _} → Overlay D b (Own b) → ℕ → Type 0
IsOwnSector o k = Has (own_writes o.own) k

-- how many more sectors it can keep
abbrev pub room_left : {b : _} → Own b → ℕ
room_left own = own.room - vec_len own.puts

-- for how many there is room
abbrev pub room_for : {b : _} → Room b → ℕ
room_for room = room.own.room

-- ## Which faults come to an overlay: what is its own it doesn't read from the borrowed disk.

-- each of these faults is of a read of a sector that isn't among the writes
abbrev pub FailOutside : Writes → List Fault → Type 0
FailOutside own [] = Unit {0}
FailOutside own (f ∷ fs) = IsReadIn (λ s. ¬ Has own s) f × FailOutside own fs

-- so is each fault that came
pub record CameOutside (own : Writes) (old new : List Fault) : Type 0 where
  pub more : List Fault
  pub come : new ≡ old ++ more
  pub outside : FailOutside own more
