use Rattle.std.proofs.Common.{◌∙◌, ◌++◌, ap}
use Rattle.std.proofs.lemmas.Result.{err_from_is_err_and}
use Rattle.pt_sector.specs.Sectors.{Writes}
use Rattle.pt_apply.specs.Plans.{writes_of}
use Rattle.pt_planner.proofs.Ranges.{writes_both}
use Rattle.pt_planner.proofs.copies.array_and_labels.Goals as goal

pub returns-in_err-writes : goal.returns-in_err-writes
returns-in_err-writes g c = let p = err_from_is_err_and c.from_residual.result c.from_residual.ensures.1 in rw p.1 tt

pub returns-in_err-extend_from_slice : goal.returns-in_err-extend_from_slice
returns-in_err-extend_from_slice g c =
    let p = err_from_is_err_and c.from_residual-in_err-extend_from_slice.result c.from_residual-in_err-extend_from_slice.ensures.1 in
    rw p.1 tt

pub returns : goal.returns
returns g c = λ n t encoded.
    ap writes_of c.in_ok-extend_from_slice.ensures.items ∙ writes_both c.in_ok-writes.writes.items c.args.labels.now
    ∙ ap (λ (ws : Writes). ws ++ writes_of c.args.labels.now) (c.in_ok-writes.ensures n t encoded)
