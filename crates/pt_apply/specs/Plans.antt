-- Plans, their writes, what a run of them may leave, and what a safe one promises.
use Rattle.std.specs.Prelude.{◌≡◌, ℕ, ◌<◌, List, [], ◌∷◌, flat_map, map, slice_get, All, Some, Vec, ◌+◌, ◌≤◌, ◌++◌, length, take}
use Rattle.std.specs.Prelude.{slice_index_or, ◌⊎◌, ◌↔◌, Option}
use Rattle.std.specs.declared.alloc.Global.{Global}
use Rattle.pt_sector.specs.Sectors.{Sectors, Writes, after, Stopped, written, sector}
use Rattle.pt_sector.specs.declared.disk.Fault.{Fault}
use Rattle.pt_sector.specs.declared.disk.Fault.TheVariants as fault
use Rattle.pt_apply.specs.declared.plan.Write.{Write}
use Rattle.pt_apply.specs.declared.plan.Plan.{Plan}
use Rattle.pt_sector.specs.Device.{Told, Moment, MayLeave, LeftBy}

-- ## Plans as a disk takes them.

-- the writes of a phase: the sector's number and its bytes
abbrev pub writes_of : {b : _} → List (Write b) → Writes
writes_of ws = map (λ (w : Write _). (w.lba.0, w.bytes)) ws

-- the phases of a plan
abbrev pub phases_of : {b : _} → Plan b → List Writes
phases_of plan = map (λ (p : Vec (Write _) Global). writes_of p.items) plan.phases.items

-- the writes of all phases, in order
abbrev pub writes_in : List Writes → Writes
writes_in phases = flat_map (λ (p : Writes). p) phases

-- P holds of none of these
abbrev pub NoneIs : {X : Type 0} → (X → Type 0) → List X → Type 0
NoneIs P xs = (k : ℕ) (x : _) → slice_get xs k ≡ Some x → ¬ P x

-- the disk once the whole plan is written
abbrev pub finished : {b : _} → Plan b → Sectors → Sectors
finished plan d = after (phases_of plan) d

-- each write is of a sector below n: of a plan, and of one of its phases
abbrev pub InRange : {b : _} → ℕ → Plan b → Type 0
InRange n plan = All (λ (p : Vec (Write _) Global). All (λ (w : Write _). w.lba.0 < n) p.items) plan.phases.items

abbrev pub PhaseInRange : {b : _} → ℕ → List (Write b) → Type 0
PhaseInRange n ws = All (λ (w : Write _). w.lba.0 < n) ws

-- the fault of each call of a phase, in order: its writes, and then the flush
abbrev pub faults_of : Writes → List Fault
faults_of [] = fault.Flush ∷ []
faults_of (w ∷ ws) = fault.Write (record { 0 = w.0 }) ∷ faults_of ws

-- ## A plan that is being written: the disks that a stop leaves, and how far the calls have come.

-- what a read gives is durable, and nothing is pending
pub record Settled (now : Told) (d : Sectors) : Type 0 where
  pub seen : now.seen ≡ d
  pub durable : now.durable ≡ d
  pub pending : now.pending ≡ []

-- c is d stopped in phase i of the phases, counted from 0; past the last phase it is the finished disk
abbrev pub StoppedIn : List Writes → Sectors → ℕ → Sectors → Type 0
StoppedIn phases d i c = Stopped (after (take i phases) d) (slice_index_or phases i []) c

-- c is stopped in some phase
pub record StoppedSomewhere (phases : List Writes) (d c : Sectors) : Type 0 where
  pub phase : ℕ
  pub within : phase ≤ length phases
  pub stopped : StoppedIn phases d phase c

-- phases that were done: each has a moment before each of its writes and one before its flush, and a crash at one of
-- these leaves a disk stopped in that phase
abbrev pub Passed : List Writes → Sectors → List Moment → Type 0
Passed [] d moments = moments ≡ []
Passed (p ∷ ps) d moments =
    (here : List Moment) × (rest : List Moment) × (moments ≡ here ++ rest) × (length here ≡ length p + 1)
    × ((c : Sectors) → LeftBy here c → Stopped d p c) × Passed ps (written p d) rest

-- phase i was reached, counted from 0: those before it were done, so many of its calls were begun, and a crash since
-- the first of them leaves a disk stopped in it
pub record Reached (phases : List Writes) (d : Sectors) (i begun : ℕ) (old new : Told) : Type 0 where
  pub done : List Moment
  pub here : List Moment
  pub past : new.past ≡ old.past ++ (done ++ here)
  pub before : Passed (take i phases) d done
  pub calls : length here ≡ begun
  pub inside : (c : Sectors) → LeftBy here c → StoppedIn phases d i c
  pub at_end : (c : Sectors) → MayLeave new c → StoppedIn phases d i c

-- a call of phase i failed, and this is its fault; it was the last that was begun
pub record CallFailed (phases : List Writes) (d : Sectors) (old new : Told) (fault : Fault) : Type 0 where
  pub phase : ℕ
  pub call : ℕ
  pub within : phase < length phases
  pub reached : Reached phases d phase (call + 1) old new
  pub is : slice_get (faults_of (slice_index_or phases phase [])) call ≡ Some fault

-- the fault is that of a call of some phase
pub record FaultOf (phases : List Writes) (fault : Fault) : Type 0 where
  pub phase : ℕ
  pub call : ℕ
  pub within : phase < length phases
  pub is : slice_get (faults_of (slice_index_or phases phase [])) call ≡ Some fault

-- ## What a checked plan promises of each disk that a stop within it may leave. What a disk denotes is a layout or nothing.

-- stopped in a phase, counted from 1: before the switch the old layout, after it the new one, in it one of the two
pub record Switches {L : Type 0} (means : Option L → Type 0) (old new : Option L) (switch phase : ℕ) : Type 0 where
  pub before : phase < switch → means old
  pub inside : phase ≡ switch → means old ⊎ means new
  pub past : switch < phase → means new

-- the code that a computer starts from, at the head of sector 0
abbrev pub boot_code : Sectors → List ℕ
boot_code d = take 440 (sector d 0)

module _ {L : Type 0} (denotes : Sectors → Option L → Type 0) (healthy : Sectors → Type 0) (table owned : Option L → ℕ → Type 0) where
  -- a sector that a plan from one layout to the other leaves alone: it is in the tables of neither, or a partition of one owns it
  abbrev pub MustStay : Option L → Option L → ℕ → Type 0
  MustStay old new k = ((¬ table old k) × (¬ table new k)) ⊎ (owned old k ⊎ owned new k)

  -- c has of d what must stay
  pub record Keeps (old new : Option L) (d c : Sectors) : Type 0 where
    pub sectors : (k : ℕ) → MustStay old new k → sector c k ≡ sector d k
    pub boot : boot_code c ≡ boot_code d

  -- whatever old layout d denotes and new one the finished disk: each disk stopped in a phase denotes the one that the
  -- switch says, and keeps what must stay; the switch is 0 where both are equal; and the finished disk is healthy
  pub record Safe (phases : List Writes) (d : Sectors) (switch : ℕ) : Type 0 where
    pub which : (old new : Option L) → denotes d old → denotes (after phases d) new
        → (i : ℕ) → i ≤ length phases → (c : Sectors) → StoppedIn phases d i c → Switches (denotes c) old new switch (i + 1)
    pub stays : (old new : Option L) → denotes d old → denotes (after phases d) new
        → (i : ℕ) → i ≤ length phases → (c : Sectors) → StoppedIn phases d i c → Keeps old new d c
    pub within : switch ≤ length phases
    pub none : (old new : Option L) → denotes d old → denotes (after phases d) new → (switch ≡ 0) ↔ (old ≡ new)
    pub well : healthy (after phases d)
