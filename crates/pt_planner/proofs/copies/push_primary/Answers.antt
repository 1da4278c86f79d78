use Rattle.std.proofs.lemmas.Result.{err_from_is_err_and}
use Rattle.pt_apply.specs.Plans.{writes_of}
use Rattle.pt_apply.specs.inner.Plans.{phases_in}
use Rattle.pt_planner.proofs.Assembling.{are_primary}
use Rattle.pt_planner.proofs.copies.push_primary.Goals as goal

pub returns : goal.returns
returns g c =
    are_primary g.row.B c.args.sectors c.args.table.now (writes_of c.args.writes.items) c.header_sector.result
    (phases_in c.args.phases.now.items) _ _ _ c.header_sector.ensures.bytes c.header_sector.ensures.fit c.in_ok-push_single.ensures
    c.in_ok-push_phase.ensures c.in_ok-push_single-2.ensures

pub returns-in_err-push_single : goal.returns-in_err-push_single
returns-in_err-push_single g c = let p = err_from_is_err_and c.from_residual.result c.from_residual.ensures.1 in rw p.1 tt

pub returns-in_err-push_phase : goal.returns-in_err-push_phase
returns-in_err-push_phase g c =
    let p = err_from_is_err_and c.from_residual-in_err-push_phase.result c.from_residual-in_err-push_phase.ensures.1 in
    rw p.1 tt

pub returns-in_err-push_single-2 : goal.returns-in_err-push_single-2
returns-in_err-push_single-2 g c =
    let p = err_from_is_err_and c.from_residual-in_err-push_single-2.result c.from_residual-in_err-push_single-2.ensures.1 in
    rw p.1 tt
