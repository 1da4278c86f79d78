-- Plans that keep the primary copy: what stands in sector 1 in place of zeros, and which phases are left out.
use Rattle.std.specs.Prelude.{◌≡◌, ◌⊎◌, ℕ, List, [], ◌∷◌, ◌++◌, length, replicate, Option, Some, None}
use Rattle.pt_sector.specs.Sectors.{Sectors, sector, Writes, Puts}
use Rattle.pt_gpt.specs.Copies.{HeaderBytes, header_place}
use Rattle.pt_gpt.specs.declared.header.Header.{Header}
use Rattle.pt_gpt.specs.declared.table.Side.TheVariants.{Primary, Backup}
use Rattle.pt_gpt.specs.declared.table.Table.{Table}
use Rattle.pt_members.specs.declared.layout.Layout.{Layout}
use Rattle.pt_cases.specs.Cases.{IsPlan, IsBackupFirst, IsPrimaryFirst, idle, backup_first, primary_first, from_mbr, one_label, within_mbr}
use Rattle.pt_cases.specs.Cases.{labels_and_backup, primary_and_labels}
use Rattle.pt_cases.specs.NewMbr.{IsNewMbr}
use Rattle.pt_cases.specs.Writes.{IsWrittenHeader, array_phase, backup_phase, one_write}
use Rattle.pt_cases.specs.declared.primary.Primary.{Primary as Choice}
use Rattle.pt_cases.specs.declared.primary.Primary.TheVariants as choice

-- ## The header that stands in sector 1 while the primary array is written.

-- the backup's header, with the numbers of the two headers exchanged: it stands in sector 1, and its array is still the backup's
abbrev pub bridge_of : ℕ → Header → Header
bridge_of n h = record h { my = header_place Primary n; alternate = header_place Backup n }

-- the bytes of that header, where these are the backup's
pub record IsBridge (b n : ℕ) (backup bytes : List ℕ) : Type 0 where
  pub header : Header
  pub is_backup : HeaderBytes b header backup
  pub written : IsWrittenHeader b (bridge_of n header) bytes

-- what stands in sector 1 of a disk without a primary copy: that header, by the backup's that is there, or zeros where the disk
-- denotes nothing
abbrev pub IsOpening : ℕ → Sectors → Option Layout → List ℕ → Type 0
IsOpening b d None bytes = bytes ≡ replicate b 0
IsOpening b d (Some o) bytes = IsBridge b (length d) (sector d (header_place Backup (length d))) bytes

-- ## Phases that change nothing are left out.

-- the disk holds what these would write
abbrev pub AllStand : Sectors → Writes → Type 0
AllStand d ws = (s : ℕ) (v : List ℕ) → Puts ws s v → sector d s ≡ v

-- these writes as a phase, or no phase where the disk holds what they would write
abbrev pub Needed : Sectors → Writes → List Writes → Type 0
Needed d ws phases = (AllStand d ws × (phases ≡ [])) ⊎ ((¬ AllStand d ws) × (phases ≡ ws ∷ []))

-- the primary copy: where the array stands, its header; else what stands in sector 1 meanwhile, the array, and the header
pub data ForPrimary (d : Sectors) (meanwhile array header : Writes) (phases : List Writes) : Type 0 where
  stands : AllStand d array → Needed d header phases → ForPrimary d meanwhile array header phases
  rewritten : ¬ AllStand d array → (first : List Writes) → Needed d meanwhile first → phases ≡ first ++ array ∷ header ∷ []
      → ForPrimary d meanwhile array header phases

-- ## The plan for a layout that keeps the primary copy.

-- of a plan that writes the backup copy first: the labels and the backup copy; the primary copy; sector 0
pub record KeepsBackupFirst (b : ℕ) (d : Sectors) (o : Option Layout) (p : Layout) (t : Table) (full : List Writes)
    (is : IsBackupFirst b d o p t full) (phases : List Writes) : Type 0 where
  pub bridge : List ℕ
  pub is_bridge : IsBridge b (length d) is.copies.backup bridge
  pub front : List Writes
  pub is_front : Needed d (labels_and_backup b (length d) t is.copies.backup is.copies.labels) front
  pub middle : List Writes
  pub is_middle : ForPrimary d (one_write 1 bridge) (array_phase b (length d) t Primary) (one_write 1 is.copies.primary) middle
  pub are : phases ≡ front ++ (middle ++ is.last)

-- of a plan that writes the primary copy first: the primary copy, with the labels; the backup copy; sector 0
pub record KeepsPrimaryFirst (b : ℕ) (d : Sectors) (o : Option Layout) (p : Layout) (t : Table) (full : List Writes)
    (is : IsPrimaryFirst b d o p t full) (phases : List Writes) : Type 0 where
  pub opening : List ℕ
  pub is_opening : IsOpening b d o opening
  pub middle : List Writes
  pub is_middle : ForPrimary d (one_write 1 opening) (primary_and_labels b (length d) t is.copies.labels) (one_write 1 is.copies.primary)
      middle
  pub back : List Writes
  pub is_back : Needed d (backup_phase b (length d) t is.copies.backup) back
  pub are : phases ≡ middle ++ (back ++ is.last)

-- what is kept of a plan that zeroes the primary header. Another plan stays as it is
abbrev pub KeptOf : {b : ℕ} {d : Sectors} {p : Layout} {full : List Writes} → IsPlan b d p full → List Writes → Type 0
KeptOf {b = b} {d = d} {p = p} {full = full} (backup_first o t is) phases = KeepsBackupFirst b d o p t full is phases
KeptOf {b = b} {d = d} {p = p} {full = full} (primary_first o t is) phases = KeepsPrimaryFirst b d o p t full is phases
KeptOf {full = full} (idle healthy none) phases = phases ≡ full
KeptOf {full = full} (from_mbr o t is) phases = phases ≡ full
KeptOf {full = full} (one_label o t is) phases = phases ≡ full
KeptOf {full = full} (within_mbr o records chain is) phases = phases ≡ full

-- a plan that makes d healthy with p and keeps the primary copy
pub record IsKept (b : ℕ) (d : Sectors) (p : Layout) (phases : List Writes) : Type 0 where
  pub full : List Writes
  pub plan : IsPlan b d p full
  pub kept : KeptOf plan phases

-- a plan by what becomes of the primary header. Where it is kept, an MBR has a plan also where d denotes none: no plan of the other
-- kind is for one
abbrev pub IsPlanBy : Choice → ℕ → Sectors → Layout → List Writes → Type 0
IsPlanBy choice.Zeroed b d p phases = IsPlan b d p phases
IsPlanBy choice.Kept b d p phases = IsKept b d p phases ⊎ IsNewMbr b d p phases
