-- Extended boot records, and the chain of them.
use Rattle.std.specs.Prelude.{◌≡◌, ◌⊎◌, ◌+◌, ℕ, List, slice_index, slice_range, replicate, Option, Some, None, ◌<◌, ◌≤◌, ◌↔◌, [], ◌∷◌}
use Rattle.std.specs.Prelude.{length}
use Rattle.pt_sector.specs.declared.address.Lba.{Lba}
use Rattle.pt_mbr.specs.Records.{HasSignature, IsUsed, RecordIs, IsExtendedKind, HasBootIndicators}
use Rattle.pt_mbr.specs.declared.ebr.Ebr.{Ebr}
use Rattle.pt_mbr.specs.declared.ebr.EbrFault.{EbrFault}
use Rattle.pt_mbr.specs.declared.ebr.EbrFault.TheVariants.{NoSignature, BadRecord}
use Rattle.pt_sector.specs.Sectors.{Sectors, sector, Span, InSpan, number_at}
use Rattle.pt_sector.specs.declared.disk.Fault.{Fault}
use Rattle.pt_sector.specs.declared.disk.Fault.TheVariants.{Read}
use Rattle.pt_sector.specs.declared.address.Extent.{Extent}
use Rattle.pt_mbr.specs.declared.ebr.EbrFault.TheVariants as ebr
use Rattle.pt_mbr.specs.declared.chain.ChainError.{ChainError}
use Rattle.pt_mbr.specs.declared.chain.ChainError.TheVariants as chain_error
use Rattle.pt_mbr.specs.declared.chain.ChainError.TheVariants.{NotUpward, OutsideExtended, TooLong, Device}

-- ## Extended boot records.

-- records three and four are zero
unfoldable pub HasZeros : List ℕ → Type 0
HasZeros b = slice_range b 478 510 ≡ replicate 32 0

-- a logical partition of a type that it may not have
unfoldable pub HasBadLogical : List ℕ → Type 0
HasBadLogical b = IsUsed 446 b × (IsExtendedKind (slice_index b 450) ⊎ (slice_index b 450 ≡ 0xEE))

-- a link of a type that it may not have
unfoldable pub HasBadLink : List ℕ → Type 0
HasBadLink b = IsUsed 462 b × (¬ IsExtendedKind (slice_index b 466))

-- a used link leads as many sectors past the first of the extended partition as its start says
abbrev pub NextIs : ℕ → Option Lba → List ℕ → Type 0
NextIs first None b = ¬ IsUsed 462 b
NextIs first (Some next) b = IsUsed 462 b × (next.0 ≡ first + number_at 470 4 b)

-- the extended boot record that stands at a place, in an extended partition from `first` on
pub record EbrBytes (first : ℕ) (at : Lba) (e : Ebr) (b : List ℕ) : Type 0 where
  pub signature : HasSignature b
  pub boots : HasBootIndicators b
  pub zeros : HasZeros b
  pub logical_kind : ¬ HasBadLogical b
  pub link_kind : ¬ HasBadLink b
  pub place : e.at ≡ at
  pub logical : RecordIs e.logical 446 b
  pub next : NextIs first e.next b

pub data IsBadRecord (b : List ℕ) : Type 0 where
  boots : ¬ HasBootIndicators b → IsBadRecord b
  zeros : ¬ HasZeros b → IsBadRecord b
  logical : HasBadLogical b → IsBadRecord b
  link : HasBadLink b → IsBadRecord b

-- the first rule that fails
abbrev pub IsEbrFault : EbrFault → List ℕ → Type 0
IsEbrFault NoSignature b = ¬ HasSignature b
IsEbrFault BadRecord b = HasSignature b × IsBadRecord b

-- ## Chains of extended boot records.

-- the sectors of an extent
abbrev pub span_of : Extent → Span
span_of e = record { first = e.first; last = e.last }

abbrev pub lba : ℕ → Lba
lba s = record { 0 = s }

-- a sector of the extended partition, and of the disk
abbrev pub IsInside : Span → ℕ → Lba → Type 0
IsInside x n at = InSpan x at.0 × (at.0 < n)

-- where a link leads, it leads upward
abbrev pub IsUpward : Lba → Option Lba → Type 0
IsUpward at None = Unit {0}
IsUpward at (Some next) = at.0 < next.0

-- the sector at a place of the extended partition is this extended boot record
pub record EbrAt (d : Sectors) (x : Span) (at : Lba) (e : Ebr) : Type 0 where
  pub inside : IsInside x (length d) at
  pub bytes : EbrBytes x.first at e (sector d at.0)

-- from a place, by these extended boot records, to where the last one links
abbrev pub Walk : Sectors → Span → Option Lba → List Ebr → Option Lba → Type 0
Walk d x from [] to = from ≡ to
Walk d x None (e ∷ es) to = ⊥
Walk d x (Some at) (e ∷ es) to = EbrAt d x at e × IsUpward at e.next × Walk d x e.next es to

-- the chain of an extended partition
pub record Chain (d : Sectors) (x : Span) (list : List Ebr) : Type 0 where
  pub few : length list ≤ 128
  pub whole : Walk d x (Some (lba x.first)) list None

-- what is wrong at a place that is reached after k extended boot records
abbrev pub FaultAt : Sectors → Span → ℕ → Lba → ChainError → Type 0
FaultAt d x k at (OutsideExtended y) = (y ≡ at) × (¬ IsInside x (length d) at)
FaultAt d x k at TooLong = IsInside x (length d) at × (k ≡ 128)
FaultAt d x k at (chain_error.NoSignature y) = (y ≡ at) × IsInside x (length d) at × (k < 128) × IsEbrFault ebr.NoSignature (sector d at.0)
FaultAt d x k at (chain_error.BadRecord y) = (y ≡ at) × IsInside x (length d) at × (k < 128) × IsEbrFault ebr.BadRecord (sector d at.0)
FaultAt d x k at (NotUpward y) = (y ≡ at) × (k < 128) × (e : Ebr) × EbrAt d x at e × (¬ IsUpward at e.next)
FaultAt d x k at (Device y) = (y ≡ at) × IsInside x (length d) at × (k < 128)

-- the first fault on the way
pub record ChainFault (d : Sectors) (x : Span) (fault : ChainError) : Type 0 where
  pub before : List Ebr
  pub at : Lba
  pub few : length before ≤ 128
  pub reached : Walk d x (Some (lba x.first)) before (Some at)
  pub here : FaultAt d x (length before) at fault

-- the sectors read on the way from a place, by at most k extended boot records
pub record ReadsFrom (d : Sectors) (x : Span) (k : ℕ) (from : Option Lba) (s : ℕ) : Type 0 where
  pub before : List Ebr
  pub few : length before < k
  pub reached : Walk d x from before (Some (lba s))
  pub inside : IsInside x (length d) (lba s)

-- the sectors that decide the chain of an extended partition, or its fault
abbrev pub ChainReads : Sectors → Span → ℕ → Type 0
ChainReads d x s = ReadsFrom d x 128 (Some (lba x.first)) s

-- the device's own fault, and not the disk's
abbrev pub IsDevice : ChainError → Type 0
IsDevice (Device y) = Unit {0}
IsDevice e = ⊥

-- the fault that an error carries
abbrev pub fault_in : ChainError → Option Fault
fault_in (Device at) = Some (Read at)
fault_in e = None

-- c has the chains that d has, and the faults, by the same sectors
pub record SameChains (x : Span) (c d : Sectors) : Type 0 where
  pub chain : (list : List Ebr) → Chain c x list ↔ Chain d x list
  pub fault : (e : ChainError) → ChainFault c x e ↔ ChainFault d x e
  pub reads : (s : ℕ) → ChainReads c x s ↔ ChainReads d x s

-- one of them stands at s
abbrev pub StandsAt : ℕ → List Ebr → Type 0
StandsAt s [] = ⊥
StandsAt s (e ∷ es) = (s ≡ e.at.0) ⊎ StandsAt s es

-- s is the sector at fault, and was read
abbrev pub IsAtFault : ChainError → ℕ → Type 0
IsAtFault (chain_error.NoSignature y) s = s ≡ y.0
IsAtFault (chain_error.BadRecord y) s = s ≡ y.0
IsAtFault (NotUpward y) s = s ≡ y.0
IsAtFault e s = ⊥

-- s was read, and is no extended boot record
abbrev pub IsReadBy : ChainError → ℕ → Type 0
IsReadBy (chain_error.NoSignature y) s = s ≡ y.0
IsReadBy (chain_error.BadRecord y) s = s ≡ y.0
IsReadBy e s = ⊥

-- what was read up to a fault of the disk, where these were decoded
abbrev pub ReadsAre : Sectors → Span → List Ebr → ChainError → Type 0
ReadsAre d x list (Device y) = Unit {0}
ReadsAre d x list e = (s : ℕ) → ChainReads d x s ↔ (StandsAt s list ⊎ IsReadBy e s)
