use Rattle.pt_planner.proofs.Surveyed.{done_here, not_done_here, decided, low_isnt}
use Rattle.pt_planner.proofs.Making.{isnt}
use Rattle.pt_planner.proofs.state.is_done.Goals as goal

pub returns-then-is_same-clause-done : goal.returns-then-is_same-clause-done
returns-then-is_same-clause-done g c =
    λ d survey. done_here g.row.B d c.args.survey.now c.args.wanted.now c.is_none.result
    (c.is_same.ensures.0 c.if-is_same.true) c.is_none.ensures survey

pub returns-then-is_same-clause-stays : goal.returns-then-is_same-clause-stays
returns-then-is_same-clause-stays g c = decided c.is_same.result c.is_same.ensures

pub returns-else-is_same-clause-done : goal.returns-else-is_same-clause-done
returns-else-is_same-clause-done g c = λ d survey. (
  (λ so. absurd (low_isnt c.is_same.result c.if-is_same.false so)),
  (λ healthy. absurd (not_done_here g.row.B d c.args.survey.now c.args.wanted.now
      (isnt c.is_same.result c.if-is_same.false c.is_same.ensures) survey healthy)),
)

pub returns-else-is_same-clause-stays : goal.returns-else-is_same-clause-stays
returns-else-is_same-clause-stays g c = decided c.is_same.result c.is_same.ensures
