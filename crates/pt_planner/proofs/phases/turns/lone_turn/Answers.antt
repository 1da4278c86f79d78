use Rattle.std.proofs.Common.{inr, subst, List}
use Rattle.std.proofs.lemmas.Result.{err_from_is_err_and}
use Rattle.pt_cases.specs.Targets.{NotOneChange}
use Rattle.pt_cases.specs.declared.targets.target.Target.{Target}
use Rattle.pt_planner.proofs.Refusing.{lone_unfree}
use Rattle.pt_planner.proofs.phases.turns.lone_turn.Goals as goal

pub returns-in-None-clause-err : goal.returns-in-None-clause-err
returns-in-None-clause-err g c = inr (
  c.in_ok-sorted.sorted.items,
  c.in_ok-sorted.ensures.ok,
  subst (λ (l : List (Target g.row.B)). NotOneChange l) c.deref.ensures.value c.in-None.ensures.other,
)

pub returns-in_err-sorted-clause-err : goal.returns-in_err-sorted-clause-err
returns-in_err-sorted-clause-err g c =
    let p = err_from_is_err_and c.from_residual.result c.from_residual.ensures.1 in
    rw (p.1, p.2) (lone_unfree c.args.old.now c.args.targets.items c.in_err-sorted.field-0.0 c.in_err-sorted.ensures.err)

pub returns-clause-ok : goal.returns-clause-ok
returns-clause-ok g c = record {
  sorted = c.in_ok-sorted.sorted.items;
  free = c.in_ok-sorted.ensures.ok;
  change = rw c.deref.ensures.value at c.in-Some.ensures.one;
}
