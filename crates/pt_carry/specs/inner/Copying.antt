-- Sectors that are being copied from a disk e: what private contracts cite.
use Rattle.std.specs.Prelude.{◌≡◌, ◌⊎◌, ◌<◌, ◌≤◌, ℕ, List, ◌++◌, length, Some}
use Rattle.pt_sector.specs.declared.address.Extent.{Extent}
use Rattle.pt_sector.specs.declared.address.Lba.{Lba}
use Rattle.pt_sector.specs.Device.{LeavesOnly}
use Rattle.pt_apply.specs.Plans.{Settled}
use Rattle.pt_recover.specs.Spans.{IsIn as IsTraced}
use Rattle.pt_carry.specs.Data.{InRun, IsFit, UnfitIs, HasPart, HasData}
use Rattle.pt_carry.specs.declared.error.Unfit.{Unfit}
use Rattle.pt_sector.specs.Sectors.{Sectors, sector, MayHold}
use Rattle.pt_sector.specs.Device.{Told, Moment, LeftBy}
use Rattle.pt_recover.specs.Denotes.{Denotes, IsTraceOf}
use Rattle.pt_carry.specs.declared.error.CarryError.{CarryError}
use Rattle.pt_carry.specs.declared.error.CarryError.TheVariants.{Unread, Device, Differs}
use Rattle.pt_carry.specs.declared.known.Known.{Known}

-- what sector k could hold at old, or what e has there, where it is one of S
abbrev pub HeldOr : Sectors → (ℕ → Type 0) → Told → ℕ → List ℕ → Type 0
HeldOr e S old k v = MayHold old.durable old.pending k v ⊎ (S k × (v ≡ sector e k))

-- each sector of c is so
pub record LeftOr (e : Sectors) (S : ℕ → Type 0) (old : Told) (c : Sectors) : Type 0 where
  pub count : length c ≡ length old.durable
  pub each : (k : ℕ) → k < length old.durable → HeldOr e S old k (sector c k)

-- since old sectors of S were written as e has them, some or all, and nothing else
pub record Took (e : Sectors) (S : ℕ → Type 0) (old new : Told) : Type 0 where
  pub seen_count : length new.seen ≡ length old.seen
  pub seen : (k : ℕ) → (sector new.seen k ≡ sector old.seen k) ⊎ (S k × (sector new.seen k ≡ sector e k))
  pub count : length new.durable ≡ length old.durable
  pub held : (k : ℕ) (v : List ℕ) → k < length old.durable → MayHold new.durable new.pending k v → HeldOr e S old k v
  pub more : List Moment
  pub past : new.past ≡ old.past ++ more
  pub inside : (c : Sectors) → LeftBy more c → LeftOr e S old c

-- the sectors of S are as e has them
abbrev pub HasThose : Sectors → (ℕ → Type 0) → Sectors → Type 0
HasThose e S c = (k : ℕ) → S k → sector c k ≡ sector e k

-- a call failed while sectors of S were copied
abbrev pub FailedCopy : (ℕ → Type 0) → CarryError → Type 0
FailedCopy S (Unread at) = S at.0
FailedCopy S (Device fault) = Unit {0}
FailedCopy S _ = ⊥

-- it is an error of a copy or of its comparison
abbrev pub IsOfCopy : CarryError → Type 0
IsOfCopy (Unread at) = Unit {0}
IsOfCopy (Device fault) = Unit {0}
IsOfCopy (Differs at) = Unit {0}
IsOfCopy _ = ⊥

-- what is known of the two disks
pub record IsKnown (b : ℕ) (e d : Sectors) (known : Known) : Type 0 where
  pub from : Denotes b d known.old
  pub to : Denotes b e (Some known.new)
  pub trace : IsTraceOf b d known.trace

-- ## Which sectors may be carried, by what is known.

-- the sector may
abbrev pub MayBe : ℕ → ℕ → Known → ℕ → Type 0
MayBe b n known s = IsFit b n known.old known.new (IsTraced known.trace) s

-- the first sector of a run that may not, and why
abbrev pub FirstInRun : ℕ → ℕ → Known → Extent → Lba × Unfit → Type 0
FirstInRun b n known run (at, why) = InRun run at.0 × UnfitIs b n known.old known.new (IsTraced known.trace) at.0 why
    × ((t : ℕ) → run.first ≤ t → t < at.0 → MayBe b n known t)

-- ## The data on its way.

-- some of it may have been written, and nothing else
pub record CopiedPart (runs : List Extent) (e : Sectors) (old new : Told) : Type 0 where
  pub seen : HasPart runs e old.seen new.seen
  pub stops : LeavesOnly old new (HasPart runs e old.seen)

-- all of it was written, and is durable
pub record CopiedAll (runs : List Extent) (e : Sectors) (old new : Told) : Type 0 where
  pub part : CopiedPart runs e old new
  pub whole : HasData runs e new.seen
  pub settled : Settled new new.seen

-- a sector was told to read otherwise, and does
abbrev pub IsOther : Lba → List ℕ → List ℕ → CarryError → Type 0
IsOther at bytes written (Differs was) = (was ≡ at) × ¬ (bytes ≡ written)
IsOther at bytes written _ = ⊥
