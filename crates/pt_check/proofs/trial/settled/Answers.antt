use Rattle.std.proofs.Common.{◌≡◌, ⊎_elim, ℕ, ◌<◌, List, length, subst, arith}
use Rattle.std.proofs.lemmas.Bool.{cases_lt}
use Rattle.pt_sector.specs.Sectors.{Writes}
use Rattle.pt_apply.specs.Plans.{phases_of, NoneIs}
use Rattle.pt_recover.specs.Spans.{IsIn}
use Rattle.pt_check.specs.Answers.{phase_at}
use Rattle.pt_check.proofs.Firsts.{lent_phase}
use Rattle.pt_check.proofs.trial.settled.Goals as goal
use Rattle.pt_check.proofs.trial.settled.Goals.{then-not-is_unread, else-not-is_unread}

pub loop-i-preserved : goal.loop-i-preserved
loop-i-preserved g c =
    let lt : c.loop-i.i < length c.args.plan.now.phases.items =
    omega (arith, c.loop-i-test.true, c.len-i-end.ensures, c.args.plan.now.phases.ok) in
    let lent = lent_phase c.args.plan.now.phases.items c.loop-i.i c.index.result.now lt c.index.ensures in
    λ j ge less. elim c.if-not-is_unread.branch [
      | then-not-is_unread w ↦ absurd (omega (arith, ge, less, w.count-is))
      | else-not-is_unread w ↦ ⊎_elim
          (λ low. c.loop-i.invariant j (omega (arith, ge, w.count-is)) low)
          (λ here. subst (λ (i : ℕ). NoneIs (λ (x : ℕ × List ℕ). IsIn c.args.trace.now x.0) (phase_at (phases_of c.args.plan.now) i))
          (let same : c.loop-i.i ≡ j = omega (arith, less, here) in same)
          (subst (λ (ws : Writes). NoneIs (λ (x : ℕ × List ℕ). IsIn c.args.trace.now x.0) ws)
          (lent c.deref.result.now c.deref.ensures.value) (c.is_unread.ensures (search w.if-not-is_unread))))
          (cases_lt j c.loop-i.i)
    ]
