-- When a disk is healthy, and which finding it has first.
use Rattle.std.specs.Prelude.{◌≡◌, ◌-◌, ℕ, length, Contains, Some, ◌≢◌, ◌≤◌, ◌⊎◌, None, ◌∷◌, []}
use Rattle.pt_sector.specs.Sectors.{Sectors, sector}
use Rattle.pt_mbr.specs.Records.{IsProtective, extended_of}
use Rattle.pt_bsd.specs.Labels.{HasMagic}
use Rattle.pt_gpt.specs.Copies.{CopyWith, Copy, HasCopy, IsCopyFault, SideReads, HasRoom}
use Rattle.pt_gpt.specs.declared.header.Header.{Header}
use Rattle.pt_gpt.specs.declared.table.Table.{Table}
use Rattle.pt_gpt.specs.declared.table.Side.TheVariants.{Primary, Backup}
use Rattle.pt_members.specs.Members.{places_of, place_of, number_path, IsPlace}
use Rattle.pt_recover.specs.Denotes.{SliceHasLabel, Denotes, IsMbrDisk, Reads, IsReason, BodyIs, IsMbr, ExtendedReads}
use Rattle.pt_members.specs.declared.layout.Slice.{Slice}
use Rattle.pt_members.specs.declared.layout.Layout.{Layout}
use Rattle.pt_members.specs.declared.layout.Body.{Body}
use Rattle.pt_members.specs.declared.layout.Body.TheVariants.{Mbr, Gpt}
use Rattle.pt_layout.specs.Sound.{Sound, IsUnsound}
use Rattle.pt_gpt.specs.declared.table.Side.{Side}
use Rattle.pt_path.specs.declared.path.Path.{Path}
use Rattle.pt_layout.specs.declared.sound.finding.Finding.{Finding}
use Rattle.pt_layout.specs.declared.sound.finding.Finding.TheVariants.{NoTable, PrimaryCopy, BackupCopy, CopiesDiffer, Alternate}
use Rattle.pt_layout.specs.declared.sound.finding.Finding.TheVariants.{Protective, OutsideUsable, Overlap, OnTable, SameGuid}
use Rattle.pt_layout.specs.declared.sound.finding.Finding.TheVariants.{ForeignLabel}
use Rattle.pt_layout.specs.declared.sound.finding.Verdict.{Verdict}
use Rattle.pt_layout.specs.declared.sound.finding.Verdict.TheVariants.{Yes, No}
use Rattle.std.proofs.Common.{List, Option}
use Rattle.pt_mbr.specs.declared.record.Record.{Record}
use Rattle.pt_members.specs.declared.layout.Labelled.{Labelled}

-- ## Healthy disks.

-- both copies exist, with these headers and this table
pub record HasCopies (b : ℕ) (d : Sectors) (t : Table) (primary backup : Header) : Type 0 where
  pub first : CopyWith b d Primary primary t
  pub second : CopyWith b d Backup backup t

-- each header names the other's sector as its alternate
pub record NameEachOther (n : ℕ) (primary backup : Header) : Type 0 where
  pub first : primary.alternate ≡ n - 1
  pub second : backup.alternate ≡ 1

-- a GPT with both copies, and a sector 0 that protects it
pub record IsWhole (b : ℕ) (d : Sectors) (t : Table) : Type 0 where
  pub primary : Header
  pub backup : Header
  pub copies : HasCopies b d t primary backup
  pub alternates : NameEachOther (length d) primary backup
  pub protective : IsProtective (length d) (sector d 0)

-- nothing is asked of an MBR
abbrev pub IsBodyWhole : ℕ → Sectors → Body → Type 0
IsBodyWhole b d (Mbr records chain) = Unit {0}
IsBodyWhole b d (Gpt t) = IsWhole b d t

-- the slice's label place bears the magic of a label and holds none
abbrev pub IsForeign : Sectors → Slice → Type 0
IsForeign d p = HasMagic (sector d (place_of p)) × (¬ SliceHasLabel d p)

-- a slice of the layout has such a place
pub record HasForeign (b : ℕ) (d : Sectors) (o : Layout) (n : ℕ) : Type 0 where
  pub slice : Slice
  pub stands : Contains (places_of b o.sectors o.body) slice
  pub number : slice.number ≡ n
  pub foreign : IsForeign d slice

-- the disk denotes this sound layout, its copies agree, and no slice has a foreign label
pub record IsHealthy (b : ℕ) (d : Sectors) (o : Layout) : Type 0 where
  pub denotes : Denotes b d (Some o)
  pub sound : Sound b o
  pub whole : IsBodyWhole b d o.body
  pub no_foreign : (n : ℕ) → ¬ HasForeign b d o n

abbrev pub Healthy : ℕ → Sectors → Type 0
Healthy b d = (o : Layout) × IsHealthy b d o

-- ## What is wrong with a disk: the first that holds.

-- the number that stands for a finding in what is printed
abbrev pub finding_number : Finding → ℕ
finding_number (NoTable e) = 1
finding_number (PrimaryCopy e) = 2
finding_number (BackupCopy e) = 3
finding_number CopiesDiffer = 4
finding_number (Alternate side) = 5
finding_number Protective = 6
finding_number (OutsideUsable p) = 7
finding_number (Overlap p q) = 8
finding_number (OnTable p s) = 9
finding_number (SameGuid i j) = 10
finding_number (ForeignLabel p) = 11

-- the side's header names another alternate, and the primary's, if it is the backup's, the right one
abbrev pub HasOtherAlternate : Side → ℕ → Header → Header → Type 0
HasOtherAlternate Primary n primary backup = primary.alternate ≢ n - 1
HasOtherAlternate Backup n primary backup = (primary.alternate ≡ n - 1) × (backup.alternate ≢ 1)

-- the first thing that keeps a body from being whole. An MBR lacks nothing. Of a GPT: a copy doesn't exist, both exist with
-- different tables, a header of two alike names another alternate, or sector 0 doesn't protect it
abbrev pub IsBodyBroken : ℕ → Sectors → Body → Finding → Type 0
IsBodyBroken b d (Mbr records chain) f = ⊥
IsBodyBroken b d (Gpt t) (PrimaryCopy e) = IsCopyFault b d Primary e
IsBodyBroken b d (Gpt t) (BackupCopy e) = HasCopy b d Primary × IsCopyFault b d Backup e
IsBodyBroken b d (Gpt t) CopiesDiffer = (p : Table) × (q : Table) × Copy b d Primary p × Copy b d Backup q × (p ≢ q)
IsBodyBroken b d (Gpt t) (Alternate side) = (h : Header) × (k : Header) × HasCopies b d t h k × HasOtherAlternate side (length d) h k
IsBodyBroken b d (Gpt t) Protective =
    (h : Header) × (k : Header) × HasCopies b d t h k × NameEachOther (length d) h k × (¬ IsProtective (length d) (sector d 0))
IsBodyBroken b d (Gpt t) _ = ⊥

-- the first slice with a foreign label
pub record IsFirstForeign (b : ℕ) (d : Sectors) (o : Layout) (p : Path) : Type 0 where
  pub whole_slice : p ≡ number_path p.number
  pub here : HasForeign b d o p.number
  pub first : (n : ℕ) → HasForeign b d o n → p.number ≤ n

-- of a disk that denotes a layout: what breaks the copies, then what is unsound, then a foreign label
abbrev pub IsLayoutFinding : ℕ → Sectors → Layout → Finding → Type 0
IsLayoutFinding b d o (NoTable e) = ⊥
IsLayoutFinding b d o (PrimaryCopy e) = IsBodyBroken b d o.body (PrimaryCopy e)
IsLayoutFinding b d o (BackupCopy e) = IsBodyBroken b d o.body (BackupCopy e)
IsLayoutFinding b d o CopiesDiffer = IsBodyBroken b d o.body CopiesDiffer
IsLayoutFinding b d o (Alternate side) = IsBodyBroken b d o.body (Alternate side)
IsLayoutFinding b d o Protective = IsBodyBroken b d o.body Protective
IsLayoutFinding b d o (ForeignLabel p) = IsBodyWhole b d o.body × Sound b o × IsFirstForeign b d o p
IsLayoutFinding b d o f = IsBodyWhole b d o.body × IsUnsound b o f

-- the first thing that is wrong with a disk
abbrev pub IsFinding : ℕ → Sectors → Finding → Type 0
IsFinding b d (NoTable e) = Denotes b d None × IsReason b d e
IsFinding b d f = (o : Layout) × Denotes b d (Some o) × IsLayoutFinding b d o f

-- the disk is healthy and denotes this layout, or this is the first thing that is wrong
abbrev pub VerdictIs : ℕ → Sectors → Verdict → Type 0
VerdictIs b d (Yes o) = IsHealthy b d o
VerdictIs b d (No f) = IsFinding b d f

-- the backup side of a disk that is tried as a GPT
abbrev pub BackupReads : ℕ → Sectors → ℕ → Type 0
BackupReads b d s = (¬ IsMbrDisk d) × HasRoom b (length d) × SideReads b d Backup s

-- the sectors that decide a verdict: those that recovery reads, and the backup side of a GPT
abbrev pub VerdictReads : ℕ → Sectors → ℕ → Type 0
VerdictReads b d s = Reads b d s ⊎ BackupReads b d s

-- ## The sectors that a plan may write in its switch alone, on a disk that turns there.

-- a sector that recovery of d reads as sector 0 of an MBR disk, as an extended boot record or as a label place
pub data IsGuarded (b : ℕ) (d : Sectors) (s : ℕ) : Type 0 where
  head : IsMbrDisk d → s ≡ 0 → IsGuarded b d s
  ebr : (m : List (Option Record)) → IsMbr d m → ExtendedReads d (extended_of m) s → IsGuarded b d s
  place : (y : Body) → BodyIs b d y → IsPlace (places_of b (length d) y) s → IsGuarded b d s

-- ## A layout has one first thing that is wrong with it at most, and so has a disk.

-- each label has places for eight entries, as those of disks have
unfoldable pub HasEight : List Labelled → Type 0
HasEight [] = Unit {0}
HasEight (l ∷ ls) = (length l.label.entries ≡ 8) × HasEight ls
