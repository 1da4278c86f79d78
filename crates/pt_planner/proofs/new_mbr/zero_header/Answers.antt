use Rattle.std.proofs.Common.{◌∷◌, [], inl, inr, refl, ap, sym, append-nil, ◌∙◌, arith, ◌++◌}
use Rattle.pt_sector.specs.Sectors.{Writes}
use Rattle.pt_apply.specs.inner.Plans.{phases_in}
use Rattle.pt_planner.proofs.Ranges.{length_phases}
use Rattle.pt_planner.proofs.Touching.{when, unless}
use Rattle.pt_planner.proofs.new_mbr.zero_header.Goals as goal

pub returns-in_ok-put_phase-clause-zeroes : goal.returns-in_ok-put_phase-clause-zeroes
returns-in_ok-put_phase-clause-zeroes g c = λ tells.
    let old = phases_in c.args.plan.now.phases.items in
    let all = length_phases c.args.plan.now.phases.items in
    let count = c.len-count.ensures in (
      _,
      inl (when _ (rw c.if-branch.true at (c.in_ok-is_stale.ensures.stale tells)), refl),
      c.in_ok-put_phase.ensures.items old [] (sym (append-nil old)) (omega (arith, all, count))
          ∙ ap (λ (ws : Writes). old ++ ws ∷ []) c.in_ok-single.ensures,
    )

pub returns-else-branch-clause-zeroes : goal.returns-else-branch-clause-zeroes
returns-else-branch-clause-zeroes g c = λ tells. (
  [],
  inr (unless _ (rw c.if-branch.false at (c.in_ok-is_stale.ensures.stale tells)), refl),
  sym (append-nil (phases_in c.args.plan.now.phases.items)),
)
