-- What a disk denotes, why it denotes nothing, and which sectors recovery reads: what private contracts cite.
use Rattle.std.specs.Prelude.{◌≡◌, ◌⊎◌, ℕ, List, [], ◌∷◌, length, Option, Some, None, Result, Ok, Err}
use Rattle.pt_sector.specs.Sectors.{Sectors, Span}
use Rattle.pt_mbr.specs.Chain.{ChainFault, IsDevice}
use Rattle.pt_mbr.specs.declared.record.Record.{Record}
use Rattle.pt_mbr.specs.declared.chain.ChainError.{ChainError}
use Rattle.pt_mbr.specs.declared.chain.ChainError.TheVariants as way
use Rattle.pt_gpt.specs.Copies.{CopyWith, IsCopyFault, HasRoom}
use Rattle.pt_gpt.specs.declared.error.CopyError.{CopyError}
use Rattle.pt_gpt.specs.declared.header.Header.{Header}
use Rattle.pt_gpt.specs.declared.table.Side.{Side}
use Rattle.pt_gpt.specs.declared.table.Table.{Table}
use Rattle.pt_bsd.specs.Labels.{LabelBytes}
use Rattle.pt_bsd.specs.declared.label.Label.{Label}
use Rattle.pt_mbr.specs.Records.{extended_of}
use Rattle.pt_recover.specs.Denotes.{IsMbrDisk, IsMbr, ExtendedReads, TableReads}
use Rattle.pt_members.specs.declared.layout.Slice.{Slice}
use Rattle.pt_members.specs.declared.layout.Labelled.{Labelled}
use Rattle.pt_recover.specs.declared.error.NoTable.{NoTable}
use Rattle.pt_recover.specs.declared.error.NoTable.TheVariants as no

-- what recovery tells of a fault of the chain, where it isn't lack of memory
abbrev pub ToldAs : ChainError → NoTable → Type 0
ToldAs (way.Device at) e = e ≡ no.Device at
ToldAs fault e = (e ≡ no.Memory) ⊎ (e ≡ no.Chain fault)

-- the first fault of the chain of these sectors
abbrev pub IsChainFault : Sectors → Span → NoTable → Type 0
IsChainFault d x (no.Chain e) = ChainFault d x e × (¬ IsDevice e)
IsChainFault d x _ = ⊥

-- a side's copy with its header, or the rule that it breaks
abbrev pub SideIs : ℕ → Sectors → Side → Result (Header × Table) CopyError → Type 0
SideIs b d side (Ok c) = CopyWith b d side c.0 c.1
SideIs b d side (Err e) = IsCopyFault b d side e

-- the label that a slice's second sector decodes to
abbrev pub LabelIs : Slice → List ℕ → Option Label → Type 0
LabelIs p bytes (Some l) = LabelBytes l p.first p.len bytes
LabelIs p bytes None = ¬ ((l : Label) × LabelBytes l p.first p.len bytes)

-- a slice's label, where it has one
abbrev pub labelled : ℕ → Option Label → List Labelled
labelled n None = []
labelled n (Some l) = record { number = n; label = l } ∷ []

-- the sectors beside sector 0 that decide the body
pub data RestReads (b : ℕ) (d : Sectors) (s : ℕ) : Type 0 where
  of_chain : (m : List (Option Record)) → IsMbr d m → ExtendedReads d (extended_of m) s → RestReads b d s
  of_table : ¬ IsMbrDisk d → HasRoom b (length d) → TableReads b d s → RestReads b d s
