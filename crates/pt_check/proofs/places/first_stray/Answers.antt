use Rattle.std.proofs.Common.{◌≡◌, ℕ, List, Option, Some, None, false}
use Rattle.std.specs.Option.{is_some}
use Rattle.pt_sector.specs.Sectors.{Writes}
use Rattle.pt_apply.specs.Plans.{phases_of, writes_in, NoneIs}
use Rattle.pt_check.specs.inner.Answers.{FirstWriteIs}
use Rattle.pt_check.specs.declared.writes.Found.{Found}
use Rattle.pt_check.proofs.Clear.{none_moves, first_outside}
use Rattle.pt_check.proofs.places.first_stray.Goals as goal

none_found : (P : ℕ × List ℕ → Type 0) (ws : Writes) (found : Option Found) → is_some found ≡ false
    → FirstWriteIs P ws found → NoneIs P ws
none_found P ws None none nothing = nothing
none_found P ws (Some f) none first = absurd cc

pub returns-then-is_none : goal.returns-then-is_none
returns-then-is_none g c =
    none_moves g.row.B c.args.layouts.now.old c.args.layouts.now.new (writes_in (phases_of c.args.plan.now))
    (none_found _ _ c.first_in_plan.result c.if-is_none.ensures c.first_in_plan.ensures)

pub returns : goal.returns
returns g c =
    first_outside g.row.B c.args.layouts.now.old c.args.layouts.now.new c.in_ok-tables.tables (writes_in (phases_of c.args.plan.now))
    c.first_in_plan-2.result c.in_ok-tables.ensures c.first_in_plan-2.ensures
