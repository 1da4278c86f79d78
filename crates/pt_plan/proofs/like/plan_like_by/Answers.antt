use Rattle.std.proofs.lemmas.Result.{err_from_is_err_and}
use Rattle.pt_apply.specs.Plans.{phases_of}
use Rattle.pt_plan.proofs.Committing.{not_like, size_met}
use Rattle.pt_plan.proofs.Wanting.{accepted}
use Rattle.pt_plan.proofs.like.plan_like_by.Goals as goal

pub returns-clause-planned : goal.returns-clause-planned
returns-clause-planned g c = λ tells other_tells. record {
  wanted = c.in_ok-wanted.wanted;
  denotes = c.in_ok-wanted.ensures.ok other_tells;
  accepted = accepted c.args.primary g.row.B c.in_ok-wanted.wanted (g.D.Disk.told c.args.disk.now).seen (phases_of c.in_ok-plan.plan)
      c.requires.size (c.in_ok-plan.ensures.planned tells);
}

pub returns-in_err-plan-clause-refused : goal.returns-in_err-plan-clause-refused
returns-in_err-plan-clause-refused g c = λ tells other_tells.
    let p = err_from_is_err_and c.from_residual-in_err-plan.result c.from_residual-in_err-plan.ensures.1 in
    rw (p.1, p.2) (not_like c.args.primary g.row.B _ _ c.in_ok-wanted.wanted (c.in_ok-wanted.ensures.ok other_tells)
    (size_met c.in_ok-wanted.wanted _ _ _ _ (g.met.E.Disk.sized c.args.other.now other_tells) c.in_ok-wanted.ensures.other_size
    c.sectors.ensures)
    _ c.in_err-plan.field-0.0 (c.in_err-plan.ensures.refused tells))
