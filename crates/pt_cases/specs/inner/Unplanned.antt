-- Why there is no plan: what private contracts cite.
use Rattle.std.specs.Prelude.{ℕ, Option}
use Rattle.pt_sector.specs.Sectors.{Sectors}
use Rattle.pt_members.specs.declared.layout.Layout.{Layout}
use Rattle.pt_cases.specs.Unplanned.{IsReused, IsUnmended, HasNoSwitch}
use Rattle.pt_cases.specs.declared.targets.error.PlanError.{PlanError}
use Rattle.pt_cases.specs.declared.targets.error.PlanError.TheVariants.{NotOneSwitch, ReusedInOneBatch, NeedsRepair, Unsound, Device}
use Rattle.pt_cases.specs.declared.targets.error.PlanError.TheVariants.{Memory}

-- why the targets of p make no plan
abbrev pub Hindered : ℕ → Sectors → Option Layout → Layout → PlanError → Type 0
Hindered b d o p ReusedInOneBatch = IsReused b d o p
Hindered b d o p NotOneSwitch = HasNoSwitch b d o p
Hindered b d o p NeedsRepair = IsUnmended b d o p
Hindered b d o p (Device fault) = Unit {0}
Hindered b d o p Memory = Unit {0}
Hindered b d o p (Unsound f) = ⊥
