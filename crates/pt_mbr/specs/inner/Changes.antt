-- Which bytes of a sector change where records do: what private contracts cite.
use Rattle.std.specs.Prelude.{◌≡◌, ◌⊎◌, ℕ, List, Option, ◌<◌, length, Some, None}
use Rattle.pt_mbr.specs.inner.Records.{IsWritten}
use Rattle.pt_mbr.specs.declared.record.Record.{Record}
use Rattle.pt_sector.specs.Sectors.{Sectors, Span}
use Rattle.pt_sector.specs.declared.address.Lba.{Lba}
use Rattle.pt_mbr.specs.Chain.{lba, Walk, Chain}
use Rattle.pt_mbr.specs.declared.ebr.Ebr.{Ebr}
use Rattle.pt_mbr.specs.declared.chain.ChainError.{ChainError}
use Rattle.pt_mbr.specs.Changes.{EndsIn}

-- ## Records written into a sector that holds others.

-- c is b, with record k written as the new one where it does not stay the same
abbrev pub IsStep : Type 0 → Option Record → ℕ → List ℕ → List ℕ → Type 0
IsStep Same new k b c = (Same × (c ≡ b)) ⊎ ((¬ Same) × IsWritten new k b c)

-- ## The extended boot records that a walk has decoded.

-- one more extended boot record: the way goes on to a place, or is the whole chain
abbrev pub StepsTo : Sectors → Span → List Ebr → Lba → List Ebr → Option Lba → Type 0
StepsTo d x done at list None = length done < 128 → Walk d x (Some (lba x.first)) done (Some at) → Chain d x list
StepsTo d x done at list (Some next) = Walk d x (Some (lba x.first)) done (Some at) → Walk d x (Some (lba x.first)) list (Some next)

-- or it ends in a fault
abbrev pub StepsOut : Sectors → Span → List Ebr → Lba → List Ebr → ChainError → Type 0
StepsOut d x done at list e = length done < 128 → Walk d x (Some (lba x.first)) done (Some at) → EndsIn d x list e
