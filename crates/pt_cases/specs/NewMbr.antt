-- The plan of an MBR where a disk denotes none, and why there is no plan, by what becomes of the primary header.
use Rattle.std.specs.Prelude.{◌≡◌, ◌≢◌, ◌⊎◌, ◌-◌, ◌<◌, ℕ, List, [], ◌∷◌, ◌++◌, length, replicate, take, Option, Some}
use Rattle.pt_sector.specs.Sectors.{Sectors, sector, Writes, Puts, written}
use Rattle.pt_mbr.specs.Records.{put_at}
use Rattle.pt_mbr.specs.declared.ebr.Ebr.{Ebr}
use Rattle.pt_mbr.specs.declared.record.Record.{Record}
use Rattle.pt_gpt.specs.declared.table.Table.{Table}
use Rattle.pt_recover.specs.Denotes.{Denotes, Reads}
use Rattle.pt_members.specs.declared.layout.Layout.{Layout}
use Rattle.pt_members.specs.declared.layout.Body.TheVariants.{Mbr, Gpt}
use Rattle.pt_members.specs.Tables.{IsTable, OwnedOf, Owns}
use Rattle.pt_apply.specs.Plans.{writes_in}
use Rattle.pt_cases.specs.Cases.{IsPlan, HadMbr}
use Rattle.pt_cases.specs.Unplanned.{Unplanned, IsFailure}
use Rattle.pt_cases.specs.Writes.{one_write}
use Rattle.pt_cases.specs.declared.primary.Primary.{Primary as Choice}
use Rattle.pt_cases.specs.declared.primary.Primary.TheVariants as choice
use Rattle.pt_cases.specs.declared.targets.error.PlanError.{PlanError}
use Rattle.pt_cases.specs.declared.targets.error.PlanError.TheVariants.{NotOneSwitch, ReusedInOneBatch}

-- ## An MBR without partitions, on a disk that has none.

-- d denotes o, which is no MBR, and p is one. The disk has a sector
pub record MakesMbr (b : ℕ) (d : Sectors) (o : Option Layout) (p : Layout) : Type 0 where
  pub from : Denotes b d o
  pub some : 0 < length d
  pub records : List (Option Record)
  pub chain : List Ebr
  pub body : p.body ≡ Mbr records chain
  pub other : ¬ HadMbr o

-- the bytes of sector 0 with four empty records and the signature put over them. The boot code and the disk's signature stay
abbrev pub empty_head : List ℕ → List ℕ
empty_head under = put_at 446 (replicate 64 0 ++ (0x55 ∷ 0xAA ∷ [])) under

-- d with that in sector 0: it denotes an MBR without partitions, and recovery reads no other sector of it
abbrev pub emptied : Sectors → Sectors
emptied d = written (one_write 0 (empty_head (sector d 0))) d

-- ## The phases up to the turn, which sector 0 alone makes.

-- those of a plan for p on the emptied disk. Where that has no phases, p is the MBR without partitions: sector 0 alone
pub data IsTurning (b : ℕ) (d : Sectors) (p : Layout) (turning : List Writes) : Type 0 where
  filled : IsPlan b (emptied d) p turning → turning ≢ [] → IsTurning b d p turning
  empty : IsPlan b (emptied d) p [] → turning ≡ one_write 0 (empty_head (sector d 0)) ∷ [] → IsTurning b d p turning

-- the writes of the phases before the last
abbrev pub before_last : List Writes → Writes
before_last phases = writes_in (take (length phases - 1) phases)

-- a write of these is of a sector that is owned in o
abbrev pub WritesOwned : ℕ → Option Layout → Writes → Type 0
WritesOwned b o ws = (s : ℕ) × (v : List ℕ) × Puts ws s v × OwnedOf b o s

-- or of one that recovery of d reads
abbrev pub WritesRead : ℕ → Sectors → Writes → Type 0
WritesRead b d ws = (s : ℕ) × (v : List ℕ) × Puts ws s v × Reads b d s

-- ## The headers of a GPT that was there.

-- o is a GPT of which sector s of the disk may hold a header still: it isn't zeros, no partition of o or of p owns it, and it is no
-- table of p
pub record IsStale (b : ℕ) (d : Sectors) (o : Option Layout) (p : Layout) (s : ℕ) : Type 0 where
  pub old : Layout
  pub table : Table
  pub is_old : o ≡ Some old
  pub was : old.body ≡ Gpt table
  pub within : s < length d
  pub unowned : ¬ OwnedOf b o s
  pub free : ¬ Owns b p s
  pub no_table : ¬ IsTable b p s
  pub other : sector d s ≢ replicate b 0

-- then it is zeroed, in a phase of its own
abbrev pub Zeroes : ℕ → Sectors → Option Layout → Layout → ℕ → List Writes → Type 0
Zeroes b d o p s phases =
    (IsStale b d o p s × (phases ≡ one_write s (replicate b 0) ∷ [])) ⊎ ((¬ IsStale b d o p s) × (phases ≡ []))

-- ## The plan of an MBR where d denotes none.

-- first what recovery of d doesn't read, then sector 0 alone, with which the disk turns, then the headers of a GPT that was, of which
-- a later reader could take one for a table: the primary one and the backup's
pub record IsNewMbr (b : ℕ) (d : Sectors) (p : Layout) (phases : List Writes) : Type 0 where
  pub old : Option Layout
  pub makes : MakesMbr b d old p
  pub turning : List Writes
  pub turns : IsTurning b d p turning
  pub unowned : ¬ WritesOwned b old (writes_in turning)
  pub unread : ¬ WritesRead b d (before_last turning)
  pub first : List Writes
  pub last : List Writes
  pub is_first : Zeroes b d old p 1 first
  pub is_last : Zeroes b d old p (length d - 1) last
  pub is : phases ≡ turning ++ (first ++ last)

-- ## Why there is none.

-- the emptied disk has no plan for p; or its plan writes a sector that o owns; or one that recovery of d reads, before sector 0. The
-- causes are looked for in this order
pub data NoNewMbr (b : ℕ) (d : Sectors) (o : Option Layout) (p : Layout) (e : PlanError) : Type 0 where
  unturned : Unplanned b (emptied d) p e → NoNewMbr b d o p e
  reused : e ≡ ReusedInOneBatch → (turning : List Writes) → IsTurning b d p turning → WritesOwned b o (writes_in turning)
      → NoNewMbr b d o p e
  early : e ≡ NotOneSwitch → (turning : List Writes) → IsTurning b d p turning → ¬ WritesOwned b o (writes_in turning)
      → WritesRead b d (before_last turning) → NoNewMbr b d o p e

-- why there is no plan that keeps the primary copy: where p is an MBR and d denotes none, this; else what hinders every plan
pub data UnplannedKept (b : ℕ) (d : Sectors) (p : Layout) (e : PlanError) : Type 0 where
  failed : IsFailure e → UnplannedKept b d p e
  as_ever : ((o : Option Layout) → ¬ MakesMbr b d o p) → Unplanned b d p e → UnplannedKept b d p e
  no_mbr : (o : Option Layout) → MakesMbr b d o p → NoNewMbr b d o p e → UnplannedKept b d p e

-- why there is no plan, by what becomes of the primary header
abbrev pub UnplannedBy : Choice → ℕ → Sectors → Layout → PlanError → Type 0
UnplannedBy choice.Zeroed b d p e = Unplanned b d p e
UnplannedBy choice.Kept b d p e = UnplannedKept b d p e
