-- Plans, their writes, what a run of them may leave, and what a safe one promises: what private contracts cite.
use Rattle.std.specs.Prelude.{◌≡◌, ℕ, ◌+◌, List, ◌++◌, length, slice_get, Some, map, Vec}
use Rattle.std.specs.declared.alloc.Global.{Global}
use Rattle.pt_sector.specs.Sectors.{Sectors, Writes, Stopped}
use Rattle.pt_sector.specs.Device.{Told, Moment, MayLeave, LeftBy}
use Rattle.pt_sector.specs.declared.disk.Fault.{Fault}
use Rattle.pt_apply.specs.Plans.{writes_of, faults_of}
use Rattle.pt_apply.specs.declared.plan.Write.{Write}

-- the phases in a list of a plan's
abbrev pub phases_in : {b : _} → List (Vec (Write b) Global) → List Writes
phases_in ps = map (λ (p : Vec (Write _) Global). writes_of p.items) ps

-- so many calls were begun, and a crash since the first of them leaves a disk that has P
pub record Within (P : Sectors → Type 0) (begun : ℕ) (old new : Told) : Type 0 where
  pub more : List Moment
  pub past : new.past ≡ old.past ++ more
  pub calls : length more ≡ begun
  pub inside : (c : Sectors) → LeftBy more c → P c
  pub at_end : (c : Sectors) → MayLeave new c → P c

-- the phase ended by the fault of the call that was begun last
pub record Ended (d : Sectors) (ws : Writes) (old new : Told) (fault : Fault) : Type 0 where
  pub call : ℕ
  pub within : Within (Stopped d ws) (call + 1) old new
  pub is : slice_get (faults_of ws) call ≡ Some fault
