use Rattle.std.proofs.Common.{◌∷◌, [], ◌∙◌, ◌≡◌, inl, ap, arith, length, refl}
use Rattle.pt_sector.specs.Sectors.{Writes}
use Rattle.pt_apply.specs.inner.Plans.{phases_in}
use Rattle.pt_planner.proofs.NewMbr.{no_items, or_range}
use Rattle.pt_planner.proofs.new_mbr.or_head.Goals as goal

pub returns-clause-in_range : goal.returns-clause-in_range
returns-clause-in_range g c = λ n some range.
    or_range n c.put_phase.new.phases.items c.args.head.now some
    (c.in_ok-put_phase.ensures.items [] [] (ap phases_in c.new-phases.ensures.items) refl
    ∙ ap (λ (ws : Writes). ws ∷ []) c.in_ok-single.ensures)

pub returns-clause-ok : goal.returns-clause-ok
returns-clause-ok g c =
    let none : length c.args.plan.phases.items ≡ 0 = let e = c.if-not-is_empty.ensures in grind (arith) in
    inl (
      no_items c.args.plan.phases.items none,
      c.in_ok-put_phase.ensures.items [] [] (ap phases_in c.new-phases.ensures.items) refl
          ∙ ap (λ (ws : Writes). ws ∷ []) c.in_ok-single.ensures,
    )
