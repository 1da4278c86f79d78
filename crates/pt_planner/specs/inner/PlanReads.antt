-- What the planner finds before it makes a plan: what private contracts cite.
use Rattle.std.specs.Prelude.{◌≡◌, ◌<◌, Option, Some, None, ◌⊎◌, ℕ, List, length, Bool, true, false}
use Rattle.pt_mbr.specs.Records.{extended_of}
use Rattle.pt_mbr.specs.declared.ebr.Ebr.{Ebr}
use Rattle.pt_mbr.specs.declared.record.Record.{Record}
use Rattle.pt_members.specs.declared.layout.Body.TheVariants.{Mbr, Gpt}
use Rattle.pt_recover.specs.Denotes.{Denotes}
use Rattle.pt_cases.specs.Cases.{HadMbr}
use Rattle.pt_cases.specs.Writes.{FitsTable, IsLoneChain}
use Rattle.pt_planner.specs.declared.state.MbrChange.{MbrChange}
use Rattle.pt_planner.specs.declared.state.Change.{Change}
use Rattle.pt_planner.specs.declared.state.Change.TheVariants as change
use Rattle.pt_members.specs.declared.layout.Layout.{Layout}
use Rattle.pt_sector.specs.Sectors.{Sectors, sector}
use Rattle.pt_members.specs.Members.{number_path}
use Rattle.pt_layout.specs.Sound.{IsUnsound}
use Rattle.pt_layout.specs.declared.sound.finding.Finding.{Finding}
use Rattle.pt_layout.specs.declared.sound.finding.Finding.TheVariants.{PrimaryCopy, BackupCopy, CopiesDiffer, Alternate, Protective}
use Rattle.pt_layout.specs.declared.sound.finding.Finding.TheVariants.{ForeignLabel}
use Rattle.pt_layout.specs.declared.health.Head.{Head}
use Rattle.pt_layout.specs.declared.health.Head.TheVariants as head
use Rattle.pt_planner.specs.declared.phases.copies.Order.{Order}
use Rattle.pt_planner.specs.declared.phases.copies.Order.TheVariants.{BackupFirst, PrimaryFirst, FromMbr}
use Rattle.pt_cases.specs.Unplanned.{LabelsFit, IsFirstLeft, HasUnreadable, NoneLeft}
use Rattle.pt_cases.specs.declared.targets.error.PlanError.{PlanError}
use Rattle.pt_cases.specs.declared.targets.error.PlanError.TheVariants.{NotOneSwitch, ReusedInOneBatch, NeedsRepair, Unsound, Device}
use Rattle.pt_cases.specs.declared.targets.error.PlanError.TheVariants.{Memory}

-- the findings that tell of a copy, or of what protects it
abbrev pub IsBrokenBy : Option Finding → Bool → Type 0
IsBrokenBy (Some (PrimaryCopy e)) broken = broken ≡ true
IsBrokenBy (Some (BackupCopy e)) broken = broken ≡ true
IsBrokenBy (Some CopiesDiffer) broken = broken ≡ true
IsBrokenBy (Some (Alternate side)) broken = broken ≡ true
IsBrokenBy (Some Protective) broken = broken ≡ true
IsBrokenBy _ broken = broken ≡ false

-- an MBR in place of that of o, on n sectors
pub record IsMbrChange (n : ℕ) (o : Option Layout) (c : MbrChange) : Type 0 where
  pub old : Layout
  pub is_old : o ≡ Some old
  pub old_body : old.body ≡ Mbr c.old_records.now c.old_chain.now
  pub four : length c.records.now ≡ 4
  pub linked : IsLoneChain n (extended_of c.records.now) c.chain.now
  pub some : 0 < n

-- no MBR with this chain may take the place of o on n sectors
abbrev pub NoMbrChange : ℕ → Option Layout → List (Option Record) → List Ebr → Type 0
NoMbrChange n o records chain =
    (b : ℕ) (d : Sectors) → length d ≡ n → Denotes b d o → HadMbr o → ¬ IsLoneChain n (extended_of records) chain

-- what a disk of n sectors gets with p, which it may have, in place of o
abbrev pub IsChangeTo : ℕ → ℕ → Option Layout → Layout → Change → Type 0
IsChangeTo b n o p (change.Mbr c) = (p.body ≡ Mbr c.records.now c.chain.now) × IsMbrChange n o c
IsChangeTo b n o p (change.Gpt table) = (p.body ≡ Gpt table.now) × FitsTable b n table.now

-- the order for a disk that is no MBR disk, with a primary copy or without, and with this sector 0
abbrev pub PlainOrder : {b : ℕ} → Bool → Option (List ℕ) → Order b → Type 0
PlainOrder true given order = order ≡ BackupFirst given
PlainOrder false given order = order ≡ PrimaryFirst given

-- the order for a disk with a sector 0 of this kind, and with a primary copy or without
abbrev pub OrderOf : {b : ℕ} → Sectors → Head → Bool → Order b → Type 0
OrderOf d head.Mbr primary order = order ≡ FromMbr (sector d 0)
OrderOf d head.Protected primary order = PlainOrder primary None order
OrderOf d head.Unprotected primary order = PlainOrder primary (Some (sector d 0)) order

-- why the label places of p have no targets
abbrev pub PlacesStop : ℕ → Sectors → Option Layout → Layout → PlanError → Type 0
PlacesStop b d o p NotOneSwitch = (¬ LabelsFit b p) ⊎ (NoneLeft b d p × HasUnreadable b d o p)
PlacesStop b d o p (Unsound f) = (n : ℕ) × IsFirstLeft b d p n × (f ≡ ForeignLabel (number_path n))
PlacesStop b d o p Memory = Unit {0}
PlacesStop b d o p (Device fault) = Unit {0}
PlacesStop b d o p ReusedInOneBatch = ⊥
PlacesStop b d o p NeedsRepair = ⊥

-- the first thing that is wrong with the layout, or lack of memory
abbrev pub IsUnsoundBy : ℕ → Layout → PlanError → Type 0
IsUnsoundBy b p (Unsound f) = IsUnsound b p f
IsUnsoundBy b p Memory = Unit {0}
IsUnsoundBy b p _ = ⊥
