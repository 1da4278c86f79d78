-- Views of a disk: what is known of it, and what is asked besides.
use Rattle.std.specs.Prelude.{◌≡◌, ◌≤◌, ◌⊎◌, List, [], ◌∷◌, ◌++◌, length, ℕ, Option, Some, None, slice_get}
use Rattle.pt_sector.specs.Sectors.{Sectors}
use Rattle.pt_replay.specs.declared.rows.WriteRow.{WriteRow}
use Rattle.pt_replay.specs.declared.plan_rows.Partial.{Partial}
use Rattle.pt_apply.specs.inner.Plans.{phases_in}
use Rattle.pt_replay.specs.Given.{rows_from, sectors_of, AreFull}
use Rattle.pt_replay.specs.inner.Given.{phases_read, IsNumbered}
use Rattle.std.proofs.Common.{ap, ◌∙◌}
use Rattle.std.proofs.lemmas.List.{map-append}
use Rattle.pt_sector.specs.declared.disk.Fault.{Fault}
use Rattle.pt_replay.specs.declared.view.View.{View}
use Rattle.pt_replay.specs.Wanted.{moments, sectors_in, IsOfNew}

-- ## The writes of plans, in rows and bytes.

-- the last phase has the number of the last row of those read so far, and no phase is empty
pub record IsGrowing {b : _} (rows : List WriteRow) (p : Partial b) : Type 0 where
  pub front : AreFull (phases_in p.phases.items)
  pub last : ((rows ≡ []) × (p.number ≡ 1) × (length p.last.items ≡ 0))
      ⊎ ((before : List WriteRow) × (row : WriteRow) × (rows ≡ before ++ row ∷ []) × (row.phase ≡ p.number) × (1 ≤ length p.last.items))

-- the rows and sectors read so far are those of the phases
pub record AreRead {b : _} (rows : List WriteRow) (sectors : Sectors) (p : Partial b) : Type 0 where
  pub numbered : IsNumbered p
  pub rows_are : rows ≡ rows_from 1 (phases_read p)
  pub sectors_are : sectors ≡ sectors_of (phases_read p)

-- ## A disk of which some sectors are known.

pub moments_on : (d : Sectors) (x : ℕ) (past later : List ℕ) → later ≡ past ++ x ∷ [] → moments d later ≡ moments d past ++ (d, []) ∷ []
moments_on d x past later is = ap (λ (l : List ℕ). moments d l) is ∙ map-append (λ (y : ℕ). (d, [])) past (x ∷ [])

-- it is the fault of a read of a sector that isn't in the view
abbrev pub IsAsked : ℕ → View → Fault → Type 0
IsAsked b v f = IsOfNew v.sectors v.numbers.now (sectors_in b v) f

-- ## Where numbers stand in a list.

-- the sector in a place, if there is one
abbrev pub sector_in : Sectors → Option ℕ → Option (List ℕ)
sector_in ks None = None
sector_in ks (Some k) = slice_get ks k
