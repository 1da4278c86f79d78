-- Plans by phases.
use Rattle.std.proofs.Common.{◌⊎◌, ℕ, List}
use Rattle.pt_sector.specs.Sectors.{Writes, Puts, Sectors, sector}
use Rattle.pt_cases.specs.Writes.{IsOfCopy, header_of, IsWrittenHeader, one_write, FitsTable, IsLoneChain}
use Rattle.std.specs.Prelude.{◌≡◌, [], ◌∷◌, Option, Some, None, ◌↔◌, length, Bool, true, false}
use Rattle.pt_gpt.specs.Copies.{AllFit, HasCopy}
use Rattle.pt_gpt.specs.declared.table.Side.TheVariants.{Primary, Backup}
use Rattle.pt_gpt.specs.declared.table.Table.{Table}
use Rattle.pt_mbr.specs.Records.{IsProtective, extended_of}
use Rattle.pt_recover.specs.Denotes.{IsMbrDisk}
use Rattle.pt_recover.specs.Spans.{IsIn}
use Rattle.pt_members.specs.declared.layout.Body.TheVariants.{Gpt, Mbr}
use Rattle.pt_members.specs.declared.layout.Layout.{Layout}
use Rattle.pt_recover.specs.declared.trace.TracedRun.{TracedRun}
use Rattle.pt_layout.specs.Healthy.{IsGuarded, IsBodyBroken, IsBodyWhole}
use Rattle.pt_cases.specs.Cases.{ChangesLabels, HadMbr}
use Rattle.pt_cases.specs.Unplanned.{Start}
use Rattle.pt_cases.specs.Targets.{AreLabelTargets, AreMbrTargets}
use Rattle.pt_cases.specs.declared.targets.target.Target.{Target}
use Rattle.pt_planner.specs.declared.phases.copies.Order.{Order}
use Rattle.pt_planner.specs.declared.phases.copies.Order.TheVariants.{BackupFirst, PrimaryFirst, FromMbr}
use Rattle.pt_mbr.specs.declared.ebr.Ebr.{Ebr}
use Rattle.pt_mbr.specs.declared.record.Record.{Record}
use Rattle.pt_layout.specs.declared.sound.finding.Finding.{Finding}

-- ## The sectors that the phases of both copies write: for whoever puts a plan together.

-- a write of a copy, or one of the labels
abbrev pub Reaches : ℕ → ℕ → Writes → ℕ → List ℕ → Type 0
Reaches b n labels s v = IsOfCopy b n s ⊎ Puts labels s v

-- ## Both copies of a table on n sectors, as phases.

-- the last phase: sector 0, if it is written
abbrev pub last_of : Option (List ℕ) → List Writes
last_of None = []
last_of (Some v) = one_write 0 v ∷ []

-- the phases that an order of the two headers' bytes gives
pub record WroteCopies (b n : ℕ) (t : Table) (order : List ℕ → List ℕ → List Writes) (phases : List Writes) : Type 0 where
  pub primary : List ℕ
  pub backup : List ℕ
  pub is_primary : IsWrittenHeader b (header_of b n t Primary) primary
  pub is_backup : IsWrittenHeader b (header_of b n t Backup) backup
  pub fit : AllFit t.entries
  pub is : phases ≡ order primary backup

-- ## What stands when both copies of a table are written.

-- which order the disk asks for
abbrev pub OrderIs : (b : ℕ) → Sectors → Order b → Type 0
OrderIs b d (BackupFirst given) = (¬ IsMbrDisk d) × HasCopy b d Primary
OrderIs b d (PrimaryFirst given) = (¬ IsMbrDisk d) × (¬ HasCopy b d Primary)
OrderIs b d (FromMbr bytes) = IsMbrDisk d

-- sector 0 as it was read; where it wasn't, it is protective
abbrev pub HeadAsRead : Sectors → Option (List ℕ) → Type 0
HeadAsRead d (Some bytes) = bytes ≡ sector d 0
HeadAsRead d None = IsProtective (length d) (sector d 0)

-- the order has it so
abbrev pub HeadIn : {b : ℕ} → Sectors → Order b → Type 0
HeadIn d (BackupFirst given) = HeadAsRead d given
HeadIn d (PrimaryFirst given) = HeadAsRead d given
HeadIn d (FromMbr bytes) = bytes ≡ sector d 0

-- the table t of p is written in both copies, with the labels of p that are new
pub record CopiesStart {b : _} (d : Sectors) (o : Option Layout) (p : Layout) (t : Table) (chosen : Order b)
    (guarded : List TracedRun) (label_targets : List (Target b)) : Type 0 where
  pub start : Start b d o p
  pub body : p.body ≡ Gpt t
  pub fits : FitsTable b (length d) t
  pub other : ¬ ChangesLabels o p
  pub order : OrderIs b d chosen
  pub head : HeadIn d chosen
  pub guards : (s : ℕ) → IsIn guarded s ↔ IsGuarded b d s
  pub places : AreLabelTargets d o p label_targets

-- ## What stands when an MBR becomes another one, or labels alone change.

-- p is an MBR in place of another one: what its sectors must hold, and what is guarded
pub record MbrStart {b : _} (d : Sectors) (o : Option Layout) (p : Layout) (guarded : List TracedRun)
    (head_targets label_targets : List (Target b)) : Type 0 where
  pub start : Start b d o p
  pub was : HadMbr o
  pub records : List (Option Record)
  pub chain : List Ebr
  pub body : p.body ≡ Mbr records chain
  pub four : length records ≡ 4
  pub linked : IsLoneChain (length d) (extended_of records) chain
  pub guards : (s : ℕ) → IsIn guarded s ↔ IsGuarded b d s
  pub heads : AreMbrTargets d was.records was.chain records chain head_targets
  pub places : AreLabelTargets d o p label_targets

-- the copies of the GPT are whole, or one is broken
abbrev pub Unbroken : ℕ → Sectors → Layout → Bool → Type 0
Unbroken b d old true = (f : Finding) × IsBodyBroken b d old.body f
Unbroken b d old false = IsBodyWhole b d old.body

-- only labels of a GPT change
pub record LabelStart {b : _} (d : Sectors) (o : Option Layout) (p : Layout) (broken : Bool)
    (label_targets : List (Target b)) : Type 0 where
  pub start : Start b d o p
  pub table : Table
  pub body : p.body ≡ Gpt table
  pub changes : ChangesLabels o p
  pub unbroken : Unbroken b d changes.old broken
  pub places : AreLabelTargets d o p label_targets
