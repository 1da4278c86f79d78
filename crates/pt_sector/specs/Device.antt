-- What a device tells: its disk, what a stop may leave, and the faults of its calls.
use Rattle.std.specs.Prelude.{◌≡◌, ◌⊎◌, ℕ, ◌<◌, List, [], ◌∷◌, ◌++◌, length, slice_set, Option, Some, None, Result, MatchResult}
use Rattle.pt_sector.specs.Sectors.{Sectors, Writes, MayHold, Stopped}
use Rattle.pt_sector.specs.declared.disk.Fault.{Fault}
use Rattle.pt_sector.specs.declared.disk.Fault.TheVariants.{Read}

-- ## What a device tells of its content, and what its calls do.

-- what was durable and what was pending
abbrev pub Moment : Type 0
Moment = Sectors × Writes

-- what a disk tells of its content
pub record Told : Type 0 where
  pub seen : Sectors
  pub durable : Sectors
  pub pending : Writes
  -- before each write and flush so far
  pub past : List Moment

abbrev pub MayLeave : Told → Sectors → Type 0
MayLeave s c = Stopped s.durable s.pending c

abbrev pub now_of : Told → Moment
now_of s = (s.durable, s.pending)

-- a crash at one of these moments may have left c
abbrev pub LeftBy : List Moment → Sectors → Type 0
LeftBy [] c = ⊥
LeftBy (m ∷ past) c = Stopped m.0 m.1 c ⊎ LeftBy past c

-- a write or flush passes
abbrev pub Elapses : Told → Told → Type 0
Elapses old new = new.past ≡ old.past ++ now_of old ∷ []

-- the value is durable at once, or it is the newest pending one
abbrev pub TakesWrite : Told → Told → ℕ → List ℕ → Type 0
TakesWrite old new k v =
    ((new.durable ≡ slice_set old.durable k v) × (new.pending ≡ old.pending))
    ⊎ ((new.durable ≡ old.durable) × (new.pending ≡ old.pending ++ (k, v) ∷ []))

-- a write that was done
pub record Wrote (old new : Told) (k : ℕ) (v : List ℕ) : Type 0 where
  pub seen : new.seen ≡ slice_set old.seen k v
  pub takes : TakesWrite old new k v
  pub time : Elapses old new

-- a write that failed: nothing, or pending and the sector as before or as written
pub record FailedWrite (old new : Told) (k : ℕ) (v : List ℕ) : Type 0 where
  pub durable : new.durable ≡ old.durable
  pub kept : ((new.seen ≡ old.seen) × (new.pending ≡ old.pending))
      ⊎ (((new.seen ≡ old.seen) ⊎ (new.seen ≡ slice_set old.seen k v)) × (new.pending ≡ old.pending ++ (k, v) ∷ []))
  pub time : Elapses old new

-- a flush that was done
pub record Flushed (old new : Told) : Type 0 where
  pub seen : new.seen ≡ old.seen
  pub durable : new.durable ≡ old.seen
  pub pending : new.pending ≡ []
  pub time : Elapses old new

-- a flush that failed
pub record FailedFlush (old new : Told) : Type 0 where
  pub seen : new.seen ≡ old.seen
  pub same_count : length new.durable ≡ length old.durable
  pub no_more : (k : ℕ) (v : List ℕ) → k < length old.durable → MayHold new.durable new.pending k v → MayHold old.durable old.pending k v
  pub time : Elapses old new

-- ## A disk that keeps its moments.

abbrev pub told_of : Sectors → Sectors → Writes → List Moment → Told
told_of seen durable pending past = record { seen = seen; durable = durable; pending = pending; past = past }

-- ## Several calls: what a crash in them may leave.

-- a crash since old leaves what it could leave at old, or a disk that has P
pub record LeavesOnly (old new : Told) (P : Sectors → Type 0) : Type 0 where
  pub more : List Moment
  pub past : new.past ≡ old.past ++ more
  pub inside : (c : Sectors) → LeftBy more c → MayLeave old c ⊎ P c
  pub at_end : (c : Sectors) → MayLeave new c → MayLeave old c ⊎ P c

-- ## What a call tells of its failure, and what a call that only reads leaves.

-- the faults once this one came, or none
abbrev pub with_fault : List Fault → Option Fault → List Fault
with_fault old None = old
with_fault old (Some f) = old ++ f ∷ []

-- a result blames the device exactly where it failed: an error that carries a fault f where f alone came, every other
-- error and every value where no fault came
abbrev pub Blames : {T E : Type 0} → (E → Option Fault) → Result T E → List Fault → List Fault → Type 0
Blames fault_in result old new = MatchResult result (λ _. new ≡ old) (λ e. new ≡ with_fault old (fault_in e))

-- a read of one of these sectors failed
abbrev pub IsReadIn : (ℕ → Type 0) → Fault → Type 0
IsReadIn S (Read at) = S at.0
IsReadIn S f = ⊥

abbrev pub AreReads : List Fault → Type 0
AreReads [] = Unit {0}
AreReads (f ∷ fs) = IsReadIn (λ s. Unit {0}) f × AreReads fs

-- the faults that came are those of reads
unfoldable pub ReadFaults : List Fault → List Fault → Type 0
ReadFaults old new = (more : List Fault) × (new ≡ old ++ more) × AreReads more

-- a call that only reads: the disk is the same in all that its ghosts say, but for faults of reads
module _ {D : Type 0} (count : D → ℕ) (name : D → ℕ) (reads : D → D → Type 0) (tells : Type 0) (told : D → Told)
    (faults : D → List Fault) where
  pub record Untouched (old new : D) : Type 0 where
    pub same_count : count new ≡ count old
    pub same_name : name new ≡ name old
    pub through : reads old new
    pub same : tells → told new ≡ told old
    pub came : ReadFaults (faults old) (faults new)
