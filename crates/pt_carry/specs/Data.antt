-- Runs of sectors that are to be carried from one disk to another, and which sectors may be.
use Rattle.std.specs.Prelude.{◌≡◌, ◌⊎◌, ◌<◌, ◌≤◌, ℕ, List, [], ◌∷◌, length, take, slice_get, Option, Some}
use Rattle.pt_sector.specs.Sectors.{Sectors, sector, InSpan, span}
use Rattle.pt_sector.specs.declared.address.Extent.{Extent}
use Rattle.pt_members.specs.Tables.{OwnedOf, TableOf}
use Rattle.pt_members.specs.declared.layout.Layout.{Layout}
use Rattle.pt_recover.specs.Denotes.{Denotes, Reads}
use Rattle.pt_carry.specs.declared.error.Unfit.{Unfit}
use Rattle.pt_carry.specs.declared.error.Unfit.TheVariants.{Outside, Owned, Table, NewTable, Read}

-- ## The data: runs of sectors. Of the sectors, d are the disk's and e those of the other one, from which they are taken.

-- the sector is one of the run
abbrev pub InRun : Extent → ℕ → Type 0
InRun run s = InSpan (span run.first run.last) s

-- the sector is one of these runs
abbrev pub IsIn : List Extent → ℕ → Type 0
IsIn [] s = ⊥
IsIn (run ∷ runs) s = InRun run s ⊎ IsIn runs s

-- c is d with some of the sectors of the runs as e has them
pub record HasPart (runs : List Extent) (e d c : Sectors) : Type 0 where
  pub count : length c ≡ length d
  pub each : (s : ℕ) → s < length d → (sector c s ≡ sector d s) ⊎ (IsIn runs s × (sector c s ≡ sector e s))

-- c has all of them as e has them
abbrev pub HasData : List Extent → Sectors → Sectors → Type 0
HasData runs e c = (s : ℕ) → IsIn runs s → sector c s ≡ sector e s

-- c is d with all of them as e has them
pub record IsCarried (runs : List Extent) (e d c : Sectors) : Type 0 where
  pub part : HasPart runs e d c
  pub whole : HasData runs e c

-- ## Which sectors may be carried to a disk of n sectors. Its layout is old, that of the other one is new, and recovery reads these.

-- it is on the disk, no partition of the old layout owns it, it is in no table of either layout, and recovery doesn't read it
pub record IsFit (b n : ℕ) (old : Option Layout) (new : Layout) (reads : ℕ → Type 0) (s : ℕ) : Type 0 where
  pub within : s < n
  pub unowned : ¬ OwnedOf b old s
  pub no_table : ¬ TableOf b old s
  pub no_new_table : ¬ TableOf b (Some new) s
  pub unread : ¬ reads s

-- the first of these reasons that holds against it
abbrev pub UnfitIs : ℕ → ℕ → Option Layout → Layout → (ℕ → Type 0) → ℕ → Unfit → Type 0
UnfitIs b n old new reads s Outside = ¬ (s < n)
UnfitIs b n old new reads s Owned = (s < n) × OwnedOf b old s
UnfitIs b n old new reads s Table = (s < n) × (¬ OwnedOf b old s) × TableOf b old s
UnfitIs b n old new reads s NewTable = (s < n) × (¬ OwnedOf b old s) × (¬ TableOf b old s) × TableOf b (Some new) s
UnfitIs b n old new reads s Read =
    (s < n) × (¬ OwnedOf b old s) × (¬ TableOf b old s) × (¬ TableOf b (Some new) s) × reads s

-- s is the first sector of the runs that isn't good, in the order of the runs
pub record IsFirst (good : ℕ → Type 0) (runs : List Extent) (s : ℕ) : Type 0 where
  pub place : ℕ
  pub run : Extent
  pub is_run : slice_get runs place ≡ Some run
  pub within : InRun run s
  pub earlier : (t : ℕ) → IsIn (take place runs) t → good t
  pub lower : (t : ℕ) → run.first ≤ t → t < s → good t

-- all sectors of the runs may be carried
pub record MayCarry (b : ℕ) (runs : List Extent) (e d : Sectors) : Type 0 where
  pub old : Option Layout
  pub from : Denotes b d old
  pub new : Layout
  pub to : Denotes b e (Some new)
  pub fit : (s : ℕ) → IsIn runs s → IsFit b (length d) old new (Reads b d) s

-- s is the first of them that may not, for this reason
pub record FirstUnfit (b : ℕ) (runs : List Extent) (e d : Sectors) (s : ℕ) (why : Unfit) : Type 0 where
  pub old : Option Layout
  pub from : Denotes b d old
  pub new : Layout
  pub to : Denotes b e (Some new)
  pub unfit : UnfitIs b (length d) old new (Reads b d) s why
  pub first : IsFirst (IsFit b (length d) old new (Reads b d)) runs s
