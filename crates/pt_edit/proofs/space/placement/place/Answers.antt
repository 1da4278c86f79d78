use Rattle.std.proofs.Common.{◌∙◌, sym}
use Rattle.pt_edit.specs.Space.{area_of}
use Rattle.pt_edit.proofs.Placing.{placed_on, started_some}
use Rattle.pt_edit.proofs.Steps.{err_is, ok_is}
use Rattle.pt_edit.proofs.space.placement.place.Goals as goal

pub end_in-requires : goal.end_in-requires
end_in-requires c = started_some (area_of c.args.space) c.args.alignment c.args.start c.in_ok-part.part (sym c.in_ok-part.ensures)

pub returns-clause-ok : goal.returns-clause-ok
returns-clause-ok c =
    ok_is c.end_in.result _
    (c.end_in.ensures
    ∙ sym (placed_on (area_of c.args.space) c.args.alignment c.args.start c.args.end c.in_ok-part.part (sym c.in_ok-part.ensures)))

pub returns-clause-err : goal.returns-clause-err
returns-clause-err c =
    err_is c.end_in.result _
    (c.end_in.ensures
    ∙ sym (placed_on (area_of c.args.space) c.args.alignment c.args.start c.args.end c.in_ok-part.part (sym c.in_ok-part.ensures)))
