-- What a disk denotes, why it denotes nothing, and which sectors recovery reads.
use Rattle.std.specs.Prelude.{◌≡◌, ◌<◌, ◌≤◌, ℕ, List, [], ◌∷◌, length, Option, ◌⊎◌, ◌↔◌, Some, None, ◌^◌, All, Result, Ok, Err}
use Rattle.pt_sector.specs.Sectors.{Sectors, sector, Writes, Puts}
use Rattle.pt_mbr.specs.Records.{IsMbrFormed, AreRecords, BearsProtective, extent_of, extended_of}
use Rattle.pt_mbr.specs.Chain.{Chain, ChainReads, ChainFault, IsDevice}
use Rattle.pt_mbr.specs.declared.record.Record.{Record}
use Rattle.pt_mbr.specs.declared.ebr.Ebr.{Ebr}
use Rattle.pt_gpt.specs.Copies.{Copy, HasCopy, CopyWith, SideReads, HasRoom, IsCopyFault}
use Rattle.pt_gpt.specs.declared.error.CopyError.{CopyError}
use Rattle.pt_gpt.specs.declared.header.Header.{Header}
use Rattle.pt_gpt.specs.declared.table.Table.{Table}
use Rattle.pt_gpt.specs.declared.table.Side.TheVariants.{Primary, Backup}
use Rattle.pt_bsd.specs.Labels.{LabelBytes}
use Rattle.pt_bsd.specs.declared.label.Label.{Label}
use Rattle.pt_members.specs.declared.layout.Slice.{Slice}
use Rattle.pt_members.specs.declared.layout.Labelled.{Labelled}
use Rattle.pt_members.specs.Members.{place_of, places_of, IsPlace}
use Rattle.pt_members.specs.declared.layout.Layout.{Layout}
use Rattle.pt_members.specs.declared.layout.Body.{Body}
use Rattle.pt_members.specs.declared.layout.Body.TheVariants.{Mbr, Gpt}
use Rattle.pt_sector.specs.declared.disk.Fault.{Fault}
use Rattle.pt_sector.specs.declared.disk.Fault.TheVariants.{Read}
use Rattle.pt_sector.specs.declared.reading.Failure.{Failure}
use Rattle.pt_sector.specs.declared.reading.Failure.TheVariants as failure
use Rattle.pt_mbr.specs.declared.chain.ChainError.{ChainError}
use Rattle.pt_mbr.specs.declared.chain.ChainError.TheVariants as chain_error
use Rattle.pt_mbr.specs.declared.mbr.Mbr.{Mbr as MbrValue}
use Rattle.pt_recover.specs.Spans.{IsIn}
use Rattle.pt_recover.specs.declared.error.NoTable.{NoTable}
use Rattle.pt_recover.specs.declared.error.NoTable.TheVariants.{NoCopy, TwoExtended, TooSmall, Device, Memory}
use Rattle.pt_recover.specs.declared.error.NoTable.TheVariants as no_table
use Rattle.pt_recover.specs.declared.error.Reason.{Reason}
use Rattle.pt_recover.specs.declared.error.Reason.TheVariants as reason
use Rattle.pt_recover.specs.declared.tables.FoundCopy.{FoundCopy}
use Rattle.pt_recover.specs.declared.trace.TracedRun.{TracedRun}

-- ## An MBR disk, its records, and the chain of a lone extended one.

-- a sector 0 of an MBR disk: MBR-formed, and none of its four records, used or not, is of the protective type
pub record IsMbrSector (bytes : List ℕ) : Type 0 where
  pub formed : IsMbrFormed bytes
  pub plain : ¬ BearsProtective bytes

-- whatever its size, an MBR disk is one with such a sector 0
abbrev pub IsMbrDisk : Sectors → Type 0
IsMbrDisk d = (0 < length d) × IsMbrSector (sector d 0)

-- an MBR disk with these records
abbrev pub IsMbr : Sectors → List (Option Record) → Type 0
IsMbr d m = IsMbrDisk d × AreRecords m (sector d 0)

-- no chain without an extended record, its chain where it is alone, and none of two
abbrev pub HasChain : Sectors → List Record → List Ebr → Type 0
HasChain d [] c = c ≡ []
HasChain d (r ∷ []) c = Chain d (extent_of r) c
HasChain d (r ∷ s ∷ rs) c = ⊥

-- the sectors read of the extended records: those of the chain of a lone one
abbrev pub ExtendedReads : Sectors → List Record → ℕ → Type 0
ExtendedReads d (r ∷ []) s = ChainReads d (extent_of r) s
ExtendedReads d rs s = ⊥

-- ## The table of a GPT disk, from its primary copy or else from its backup.

-- the table of the primary copy, else of the backup
abbrev pub TableIs : ℕ → Sectors → Table → Type 0
TableIs b d t = Copy b d Primary t ⊎ ((¬ HasCopy b d Primary) × Copy b d Backup t)

-- the primary side's sectors, and where no primary copy exists, the backup side's
abbrev pub TableReads : ℕ → Sectors → ℕ → Type 0
TableReads b d s = SideReads b d Primary s ⊎ ((¬ HasCopy b d Primary) × SideReads b d Backup s)

-- a copy that decides it: the primary one, or the backup where the primary side breaks this rule
abbrev pub StandsAs : ℕ → Sectors → Option CopyError → Header → Table → Type 0
StandsAs b d None h t = CopyWith b d Primary h t
StandsAs b d (Some e) h t = IsCopyFault b d Primary e × CopyWith b d Backup h t

abbrev pub FoundCopyIs : ℕ → Sectors → FoundCopy → Type 0
FoundCopyIs b d c = StandsAs b d c.no_primary c.header c.table

-- that copy, or the first fault of each
abbrev pub EitherIs : ℕ → Sectors → Result FoundCopy (CopyError × CopyError) → Type 0
EitherIs b d (Ok c) = FoundCopyIs b d c
EitherIs b d (Err e) = IsCopyFault b d Primary e.0 × IsCopyFault b d Backup e.1

-- ## What stands at the label places of slices.

-- the slice's label
abbrev pub LabelAt : Sectors → Slice → Label → Type 0
LabelAt d p l = LabelBytes l p.first p.len (sector d (place_of p))

abbrev pub SliceHasLabel : Sectors → Slice → Type 0
SliceHasLabel d p = (l : Label) × LabelAt d p l

-- the labels at these places, in their order; a slice without a label is left out
abbrev pub LabelsAre : Sectors → List Slice → List Labelled → Type 0
LabelsAre d [] labels = labels ≡ []
LabelsAre d (p ∷ ps) labels =
    ((l : Label) × (rest : List Labelled) × (labels ≡ record { number = p.number; label = l } ∷ rest) × LabelAt d p l × LabelsAre d ps rest)
    ⊎ ((¬ SliceHasLabel d p) × LabelsAre d ps labels)

-- ## What a disk denotes, and which sectors decide it.

-- the records and the chain of an MBR disk, or the table of another one that is large enough
abbrev pub BodyIs : ℕ → Sectors → Body → Type 0
BodyIs b d (Mbr records chain) = IsMbr d records × HasChain d (extended_of records) chain
BodyIs b d (Gpt t) = (¬ IsMbrDisk d) × HasRoom b (length d) × TableIs b d t

-- the sectors that decide it
pub data BodyReads (b : ℕ) (d : Sectors) (s : ℕ) : Type 0 where
  head : 0 < length d → s ≡ 0 → BodyReads b d s
  chain : (m : List (Option Record)) → IsMbr d m → ExtendedReads d (extended_of m) s → BodyReads b d s
  table : ¬ IsMbrDisk d → HasRoom b (length d) → TableReads b d s → BodyReads b d s

-- a layout, or nothing where there is neither body
abbrev pub Denotes : ℕ → Sectors → Option Layout → Type 0
Denotes b d (Some o) = (o.sectors ≡ length d) × BodyIs b d o.body × LabelsAre d (places_of b (length d) o.body) o.labels
Denotes b d None = (body : Body) → ¬ BodyIs b d body

-- the sectors that recovery reads: those that decide the body, and the label places of that body
pub data Reads (b : ℕ) (d : Sectors) (s : ℕ) : Type 0 where
  body : BodyReads b d s → Reads b d s
  label : (y : Body) → BodyIs b d y → IsPlace (places_of b (length d) y) s → Reads b d s

-- c denotes what d does, by the same sectors
pub record SameMeaning (b : ℕ) (c d : Sectors) : Type 0 where
  pub denotes : (o : Option Layout) → Denotes b c o ↔ Denotes b d o
  pub reads : (s : ℕ) → Reads b c s ↔ Reads b d s

-- ## What recovery answers where there is no layout.

-- why the disk denotes nothing: two copies with their first faults; the first fault in the chain of a lone extended record;
-- two extended records, or more; too few sectors for a GPT
abbrev pub IsReason : ℕ → Sectors → NoTable → Type 0
IsReason b d (NoCopy e f) = (¬ IsMbrDisk d) × HasRoom b (length d) × IsCopyFault b d Primary e × IsCopyFault b d Backup f
IsReason b d (no_table.Chain e) =
    (m : List (Option Record)) × (r : Record) × IsMbr d m × (extended_of m ≡ r ∷ []) × ChainFault d (extent_of r) e × (¬ IsDevice e)
IsReason b d TwoExtended = (m : List (Option Record)) × IsMbr d m × (2 ≤ length (extended_of m))
IsReason b d TooSmall = (¬ IsMbrDisk d) × (¬ HasRoom b (length d))
IsReason b d _ = ⊥

-- an answer that the disk's content doesn't explain
abbrev pub IsOutsideDisk : NoTable → Type 0
IsOutsideDisk (Device at) = Unit {0}
IsOutsideDisk Memory = Unit {0}
IsOutsideDisk _ = ⊥

-- an answer that is no layout: the disk denotes nothing for this reason, or the device or memory failed
abbrev pub TellsNothing : ℕ → Sectors → NoTable → Type 0
TellsNothing b d e = IsOutsideDisk e ⊎ (Denotes b d None × IsReason b d e)

-- the reason that an answer is, or the failure
abbrev pub reason_in : NoTable → Result Reason Failure
reason_in (NoCopy e f) = Ok (reason.NoCopy e f)
reason_in (no_table.Chain e) = Ok (reason.Chain e)
reason_in TwoExtended = Ok reason.TwoExtended
reason_in TooSmall = Ok reason.TooSmall
reason_in (Device at) = Err (failure.Device at)
reason_in Memory = Err failure.Memory

-- what recovery tells of a reason
abbrev pub told_reason : Reason → NoTable
told_reason (reason.NoCopy e f) = NoCopy e f
told_reason (reason.Chain e) = no_table.Chain e
told_reason reason.TwoExtended = TwoExtended
told_reason reason.TooSmall = TooSmall

-- what a reading finds: the layout that the disk denotes, or why it denotes nothing
abbrev pub FoundIs : ℕ → Sectors → Result Layout Reason → Type 0
FoundIs b d (Ok o) = Denotes b d (Some o)
FoundIs b d (Err r) = Denotes b d None × IsReason b d (told_reason r)

-- what recovery tells of a failure
abbrev pub told_failure : Failure → NoTable
told_failure (failure.Device at) = Device at
told_failure failure.Memory = Memory

-- what recovery tells of what is wrong with a chain: a sector of it that can't be read is the device's fault
abbrev pub told_chain : ChainError → NoTable
told_chain (chain_error.Device at) = Device at
told_chain e = no_table.Chain e

-- the fault that an answer carries
abbrev pub fault_in : NoTable → Option Fault
fault_in (Device at) = Some (Read at)
fault_in _ = None

-- the sectors of the trace are those that recovery reads, and no others
abbrev pub IsTraceOf : ℕ → Sectors → List TracedRun → Type 0
IsTraceOf b d runs = (s : ℕ) → IsIn runs s ↔ Reads b d s

-- the records of sector 0, none where it isn't that of an MBR disk
abbrev pub RecordsAre : List ℕ → Option MbrValue → Type 0
RecordsAre bytes None = ¬ IsMbrSector bytes
RecordsAre bytes (Some m) = IsMbrSector bytes × AreRecords m.records bytes

-- the sector whose read failed is one of these
abbrev pub FailedInDisk : (ℕ → Type 0) → NoTable → Type 0
FailedInDisk S (Device at) = S at.0
FailedInDisk S _ = Unit {0}

-- ## None of these writes is to a sector that recovery of d reads.

-- none of these writes is to a sector that recovery of d reads
abbrev pub LeavesReads : ℕ → Sectors → Writes → Type 0
LeavesReads b d phase = (s : ℕ) (bytes : List ℕ) → Puts phase s bytes → ¬ Reads b d s

-- ## Numbers of 32 bits: what the types of records say of their starts and sizes.

-- a record's start and size
pub record RecordNumbers (r : Record) : Type 0 where
  pub start : r.start < 2 ^ 32
  pub size : r.size < 2 ^ 32

abbrev pub SlotNumbers : Option Record → Type 0
SlotNumbers None = Unit {0}
SlotNumbers (Some r) = RecordNumbers r

-- those of the logical partition that an extended boot record makes
abbrev pub EbrNumbers : Ebr → Type 0
EbrNumbers e = SlotNumbers e.logical

abbrev pub BodyNumbers : Body → Type 0
BodyNumbers (Mbr records c) = All SlotNumbers records × All EbrNumbers c
BodyNumbers (Gpt t) = Unit {0}

-- all of a layout's
abbrev pub Numbers : Layout → Type 0
Numbers o = BodyNumbers o.body
