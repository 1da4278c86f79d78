-- The copies of a table while phases are tried, and the sectors that decide what a disk denotes by them.
use Rattle.std.specs.Prelude.{◌≡◌, ◌≤◌, ◌⊎◌, ◌↔◌, ℕ, List, length, Option, Some, None, IfSome, All}
use Rattle.pt_sector.specs.Sectors.{Sectors}
use Rattle.pt_gpt.specs.Copies.{header_place, Copy, SideReads}
use Rattle.pt_gpt.specs.declared.table.Side.TheVariants.{Primary, Backup}
use Rattle.pt_gpt.specs.declared.table.Table.{Table}
use Rattle.pt_members.specs.Members.{places_of, IsPlace}
use Rattle.pt_members.specs.Tables.{IsGptTable}
use Rattle.pt_members.specs.declared.layout.Body.{Body}
use Rattle.pt_members.specs.declared.layout.Body.TheVariants.{Gpt}
use Rattle.pt_members.specs.declared.layout.Layout.{Layout}
use Rattle.pt_recover.specs.Denotes.{TableIs, TableReads, Denotes, Reads}
use Rattle.pt_recover.specs.Spans.{IsIn}
use Rattle.pt_recover.specs.declared.trace.TracedRun.{TracedRun}
use Rattle.pt_follow.specs.Follow.{InCopy, Follows}
use Rattle.pt_check.specs.declared.given.GivenTrace.{GivenTrace}
use Rattle.pt_check.specs.declared.given.Given.{Given}
use Rattle.pt_check.specs.declared.given.Given.TheVariants.{ByPrimary, WithoutHeader, WithoutArray}
use Rattle.pt_check.specs.declared.following.Followed.{Followed}
use Rattle.pt_check.specs.declared.trial.Step.{Step}
use Rattle.pt_check.specs.declared.trial.Step.TheVariants.{Goes, Neither}
use Rattle.pt_check.specs.declared.trial.Stepped.{Stepped}
use Rattle.pt_check.specs.inner.Answers.{StepIs, current_of}

-- ## A table that one of its copies gives.

-- the sectors that decide the table, on n sectors: of a copy that gives it, those of so many entries; of one that is lost, its header's,
-- and those of as many as that tells of
abbrev pub GivenReads : ℕ → ℕ → ℕ → Given → ℕ → Type 0
GivenReads b n count ByPrimary s = InCopy b n Primary count s
GivenReads b n count WithoutHeader s = (s ≡ header_place Primary n) ⊎ InCopy b n Backup count s
GivenReads b n count (WithoutArray told) s = InCopy b n Primary told s ⊎ InCopy b n Backup count s

-- the primary header that it knows of tells of as many entries as a table may have
abbrev pub IsCounted : Given → Type 0
IsCounted (WithoutArray told) = (1 ≤ told) × (told ≤ 128)
IsCounted _ = Unit {0}

-- the table of d is t, and is given so
pub record IsGiven (b : ℕ) (d : Sectors) (t : Table) (g : Given) : Type 0 where
  pub table : TableIs b d t
  pub reads : (s : ℕ) → TableReads b d s ↔ GivenReads b (length d) (length t.entries) g s

-- sector 0, those that decide the table, and the label places of the body
abbrev pub DecidedBy : ℕ → ℕ → Body → ℕ → Given → ℕ → Type 0
DecidedBy b n body count g s = (s ≡ 0) ⊎ GivenReads b n count g s ⊎ IsPlace (places_of b n body) s

abbrev pub IsDeciding : ℕ → ℕ → Body → ℕ → Given → List TracedRun → Type 0
IsDeciding b n body count g runs = (s : ℕ) → IsIn runs s ↔ DecidedBy b n body count g s

-- ## The copies that are followed.

-- no label place is in the sectors of the tables
abbrev pub AreApart : ℕ → ℕ → Body → Type 0
AreApart b n body = (s : ℕ) → IsGptTable b n s → ¬ IsPlace (places_of b n body) s

-- the copies of d are followed beside t
pub record AreCopies (b : ℕ) (d : Sectors) (t : Table) (f : Followed) : Type 0 where
  pub primary : Follows b d Primary t f.primary
  pub backup : IfSome f.backup (Follows b d Backup t)

-- those of d beside the table of a layout
pub record IsFollowed (b : ℕ) (d : Sectors) (l : Layout) (t : Table) (f : Followed) : Type 0 where
  pub sectors : l.sectors ≡ length d
  pub is_gpt : l.body ≡ Gpt t
  pub apart : AreApart b (length d) l.body
  pub copies : AreCopies b d t f
  pub deciding : All (λ (k : GivenTrace). IsDeciding b (length d) l.body (length t.entries) k.given k.trace) f.deciding.items

-- those of d beside the table of what is denoted; or none is
abbrev pub AreFollowed : ℕ → Sectors → Option Layout → Option Followed → Type 0
AreFollowed b d o None = Unit {0}
AreFollowed b d o (Some f) = (l : Layout) × (t : Table) × (o ≡ Some l) × IsFollowed b d l t f

-- ## What a disk denotes by them.

-- the table is t, given by some of its copies, and these runs decide d
abbrev pub IsDecided : ℕ → Sectors → Layout → Table → List TracedRun → Type 0
IsDecided b d l t runs = (g : Given) × IsGiven b d t g × IsDeciding b (length d) l.body (length t.entries) g runs

-- d denotes this, and the runs have the sectors that recovery of d reads
pub record StillIs (b : ℕ) (d : Sectors) (o : Option Layout) (runs : List TracedRun) : Type 0 where
  pub denotes : Denotes b d o
  pub reads : (s : ℕ) → IsIn runs s ↔ Reads b d s

-- the backup's sectors, where the primary copy is lost
abbrev pub IsLostSide : ℕ → Sectors → ℕ → Type 0
IsLostSide b d s = ((u : Table) → ¬ Copy b d Primary u) × SideReads b d Backup s

-- ## What a recovery after a phase came to.

-- it found what d denotes, and by which sectors; the step is that of what it found
pub record IsStepped (b : ℕ) (d : Sectors) (old new : Option Layout) (switch : Option ℕ) (number : ℕ) (r : Stepped) : Type 0 where
  pub found : Option Layout
  pub denotes : Denotes b d found
  pub step : StepIs found old new switch number r.step
  pub reads : (s : ℕ) → IsIn r.trace s ↔ Reads b d s

-- the copies of d are followed beside the layout that the step goes on with
abbrev pub StepFollowed : ℕ → Sectors → Option Layout → Option Layout → Step → Option Followed → Type 0
StepFollowed b d old new (Goes switch) f = AreFollowed b d (current_of old new switch) f
StepFollowed b d old new Neither f = Unit {0}
