-- Which bytes recovery can't tell apart.
use Rattle.std.specs.Prelude.{◌≡◌, ◌↔◌, ℕ, List, Option, length}
use Rattle.pt_sector.specs.Sectors.{Sectors, sector}
use Rattle.pt_sector.specs.declared.address.Lba.{Lba}
use Rattle.pt_mbr.specs.Records.{AreRecords}
use Rattle.pt_mbr.specs.Chain.{EbrBytes}
use Rattle.pt_mbr.specs.declared.record.Record.{Record}
use Rattle.pt_mbr.specs.declared.ebr.Ebr.{Ebr}
use Rattle.pt_bsd.specs.Labels.{LabelBytes}
use Rattle.pt_bsd.specs.declared.label.Label.{Label}
use Rattle.pt_gpt.specs.Copies.{HeaderBytes, IsHead, InArray}
use Rattle.pt_gpt.specs.declared.header.Header.{Header}
use Rattle.pt_gpt.specs.declared.table.Side.{Side}
use Rattle.pt_recover.specs.Denotes.{IsMbrSector, IsMbrDisk, Reads}

-- ## Two sectors, each with what it says in one of the roles that a sector has.

-- as sector 0: both are of an MBR disk, with the same records, or neither is
pub record SameHeads (x y : List ℕ) : Type 0 where
  pub plain : IsMbrSector x ↔ IsMbrSector y
  pub records : IsMbrSector x → (m : List (Option Record)) → AreRecords m x ↔ AreRecords m y

-- the same extended boot record, or none
abbrev pub SameEbrs : List ℕ → List ℕ → Type 0
SameEbrs x y = (first : ℕ) (at : Lba) (e : Ebr) → EbrBytes first at e x ↔ EbrBytes first at e y

-- the same label, or none, whatever the slice
abbrev pub SameLabels : List ℕ → List ℕ → Type 0
SameLabels x y = (l : Label) (first len : ℕ) → LabelBytes l first len x ↔ LabelBytes l first len y

-- the same header, or none
abbrev pub SameHeaders : ℕ → List ℕ → List ℕ → Type 0
SameHeaders b x y = (h : Header) → HeaderBytes b h x ↔ HeaderBytes b h y

-- x and y say the same of sector s in each role that it may have, but for that of a part of an array
pub record SaysSame (b s : ℕ) (x y : List ℕ) : Type 0 where
  pub head : s ≡ 0 → SameHeads x y
  pub ebr : SameEbrs x y
  pub label : SameLabels x y
  pub header : SameHeaders b x y

-- ## A sector of a disk.

-- a header counts the sector among those of its array
abbrev pub IsCounted : ℕ → Sectors → ℕ → Type 0
IsCounted b d s = (side : Side) × (h : Header) × IsHead b d side h × InArray b h s

-- these bytes in sector s say what d's do; each byte of an array counts
pub record IsAlike (b : ℕ) (d : Sectors) (s : ℕ) (bytes : List ℕ) : Type 0 where
  pub says : SaysSame b s bytes (sector d s)
  pub array : ¬ IsMbrDisk d → IsCounted b d s → bytes ≡ sector d s

-- c has as many sectors as d, and each that recovery of d reads says there what it says in d
pub record ReadsAlike (b : ℕ) (c d : Sectors) : Type 0 where
  pub count : length c ≡ length d
  pub each : (s : ℕ) → Reads b d s → IsAlike b d s (sector c s)
