-- What functions have of an area.
use Rattle.std.specs.Prelude.{ℕ, Bool, List, [], Option, Some, None, if◌then◌else◌}
use Rattle.pt_edit.specs.declared.space.Run.{Run}
use Rattle.pt_edit.specs.Space.{Area}
use Rattle.pt_set.specs.declared.places.Bounds.{Bounds}

-- whether a sector is to be free before a partition
abbrev pub empties_by : Bool → Option (List ℕ)
empties_by leads = if leads then Some [] else None

-- what the bounds say, with these runs taken
abbrev pub area_in : Bounds → List Run → Area
area_in x runs = record { low = x.low; high = x.high; taken = runs; empties = empties_by x.leads }
