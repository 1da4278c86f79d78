-- Plans that keep the primary copy: what private contracts cite.
use Rattle.std.specs.Prelude.{◌≡◌, ℕ, List, ◌∷◌, ◌++◌, length, Option, Some, None}
use Rattle.pt_sector.specs.Sectors.{Sectors, sector, Writes, Puts}
use Rattle.pt_apply.specs.Plans.{writes_in}
use Rattle.pt_gpt.specs.Copies.{HeaderBytes, header_place}
use Rattle.pt_gpt.specs.declared.header.Header.{Header}
use Rattle.pt_gpt.specs.declared.table.Side.TheVariants.{Backup}
use Rattle.pt_members.specs.declared.layout.Layout.{Layout}
use Rattle.pt_cases.specs.Kept.{Needed, ForPrimary, IsBridge, IsOpening}
use Rattle.pt_cases.specs.Writes.{one_write}

-- ## Phases that may be left out. d is the disk.

-- one of these writes is of the sector
abbrev pub IsWritten : Writes → ℕ → Type 0
IsWritten ws s = (v : List ℕ) × Puts ws s v

-- a write of one of these phases is
abbrev pub IsTried : List Writes → ℕ → Type 0
IsTried phases s = IsWritten (writes_in phases) s

-- the phase at a place is left out where it stands
abbrev pub LeavesOut : Sectors → ℕ → List Writes → List Writes → Type 0
LeavesOut d at old new = (before rest : List Writes) (ws : Writes) → old ≡ before ++ ws ∷ rest → length before ≡ at
    → (kept : List Writes) × Needed d ws kept × (new ≡ before ++ (kept ++ rest))

-- the three phases of the primary copy from a place on
abbrev pub RewritesPrimary : Sectors → ℕ → Writes → List Writes → List Writes → Type 0
RewritesPrimary d at meanwhile old new = (before rest : List Writes) (zeros array header : Writes)
    → old ≡ before ++ zeros ∷ array ∷ header ∷ rest → length before ≡ at
    → (middle : List Writes) × ForPrimary d meanwhile array header middle × (new ≡ before ++ (middle ++ rest))

-- ## What stands in sector 1 meanwhile.

-- what leads to the backup's array where the disk denotes a layout and its last sector is a header, and zeros where it denotes nothing
abbrev pub IsOver : ℕ → Sectors → Option Layout → List ℕ → Type 0
IsOver b d None bytes = IsOpening b d None bytes
IsOver b d (Some o) bytes = (h : Header) → HeaderBytes b h (sector d (header_place Backup (length d))) → IsOpening b d (Some o) bytes

-- the phases that write the backup copy first, whose first one ends with this header
abbrev pub RewritesBackupFirst : ℕ → Sectors → List Writes → List Writes → Type 0
RewritesBackupFirst b d old new = (first : Writes) (at : ℕ) (backup : List ℕ) (zeros array header : Writes)
    (last : List Writes) (h : Header)
    → old ≡ (first ++ one_write at backup) ∷ zeros ∷ array ∷ header ∷ last → HeaderBytes b h backup
    → (bridge : List ℕ) × (front middle : List Writes) × IsBridge b (length d) backup bridge × Needed d (first ++ one_write at backup) front
    × ForPrimary d (one_write 1 bridge) array header middle × (new ≡ front ++ (middle ++ last))

-- those that write the primary copy first
abbrev pub RewritesPrimaryFirst : ℕ → Sectors → Option Layout → List Writes → List Writes → Type 0
RewritesPrimaryFirst b d o old new = (zeros array header backup : Writes) (last : List Writes)
    → old ≡ zeros ∷ array ∷ header ∷ backup ∷ last
    → (opening : List ℕ) × (middle back : List Writes) × IsOver b d o opening × ForPrimary d (one_write 1 opening) array header middle
    × Needed d backup back × (new ≡ middle ++ (back ++ last))
