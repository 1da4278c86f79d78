use Rattle.std.proofs.Common.{◌≡◌, ◌∙◌, ◌+◌, ◌++◌, ◌∷◌, [], List, refl, ap, arith, Vec, Global}
use Rattle.pt_apply.specs.declared.plan.Write.{Write}
use Rattle.pt_replay.proofs.PlanRows.{took_same, took_next, write_of}
use Rattle.pt_replay.proofs.plan_rows.add_write.Goals as goal

pub returns-then-row-partial-clause-good : goal.returns-then-row-partial-clause-good
returns-then-row-partial-clause-good g c = λ yes.
    took_same c.args.row.now c.args.bytes.now c.args.partial.now _ c.requires.numbered c.if-row-partial.true refl
    c.in_ok-push.ensures.items refl

pub returns-clause-good : goal.returns-clause-good
returns-clause-good g c = λ yes.
    let phase : c.args.row.now.phase ≡ c.args.partial.now.number + 1 = let a = c.if-row-partial-2.false in let b =
    c.if-row-partial-ne1.false in omega (arith, a, b) in
    took_next c.args.row.now c.args.bytes.now c.args.partial.now _ c.replace-last.result c.requires.numbered
    (let a = c.if-is_empty.false in let e = c.is_empty.ensures in grind (arith, a, e)) phase
    (ap (λ (v : Vec (Write g.row.B) Global). v.items) c.replace-last.ensures.value) c.in_ok-push-3.ensures.items
    (ap (λ (v : Vec (Write g.row.B) Global). v.items) c.replace-last.ensures.after
    ∙ (c.in_ok-push-2.ensures.items ∙ ap (λ (t : List (Write g.row.B)). t
    ++ write_of c.args.row.now c.args.bytes.now ∷ []) c.new-next.ensures.items)) refl
