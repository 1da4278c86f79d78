use Rattle.std.proofs.Common.{List, refl, sym, subst}
use Rattle.pt_apply.specs.Plans.{writes_of}
use Rattle.pt_apply.specs.declared.plan.Write.{Write}
use Rattle.pt_planner.specs.inner.Phases.{AddsBackup}
use Rattle.pt_planner.proofs.Assembling.{adds_backup}
use Rattle.pt_planner.proofs.copies.parts.push_backup.Goals as goal

pub returns : goal.returns
returns g c =
    let array = c.in_ok-push_array.ensures c.args.table.now.entries c.requires.array in
    subst (λ (ws : List (Write g.row.B)). AddsBackup g.row.B c.args.sectors c.args.table.now (writes_of c.args.writes.now.items)
    (writes_of ws))
    (sym c.in_ok-push.ensures.items) (adds_backup c.args.sectors c.args.table.now (writes_of c.args.writes.now.items)
    c.push_array.new.writes.items _ (rw (c.in_ok-reserve.ensures.items, c.array_at.ensures) at array) refl
    c.header_sector.ensures.bytes)
