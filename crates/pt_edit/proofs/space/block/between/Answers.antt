use Rattle.std.proofs.Common.{◌≤◌, ◌+◌, ◌∙◌, List, Vec, ap, subst, sym, length}
use Rattle.std.specs.declared.alloc.Global.{Global}
use Rattle.pt_edit.specs.declared.space.Run.{Run}
use Rattle.pt_edit.specs.Space.{AreBlocks, area_of}
use Rattle.pt_edit.proofs.AllBlocks.{all_listed, listed_at_end, listed_more, listed_none, listed_same}
use Rattle.pt_edit.proofs.Gaps.{is_at, run_at}
use Rattle.pt_edit.proofs.space.block.between.Goals as goal
use Rattle.pt_edit.proofs.space.block.between.Goals.{then-run+in_ok-push_gap+else-run-space, else-run}

pub returns-then-run-space : goal.returns-then-run-space
returns-then-run-space c =
    let a = area_of c.args.space.now in
    let items = c.deref-run-items.result.now in
    let at = is_at a items c.loop-run.run-index c.deref-run-items.ensures.value c.loop-run-test.true c.if-run.true in
    subst (λ (l : List Run). AreBlocks a l) (sym c.in_ok-push_gap.ensures)
    (listed_at_end a c.loop-run.run-index c.loop-run.first c.loop-run.blocks.items c.loop-run.invariant c.requires
    (run_at items c.loop-run.run-index) at c.if-run-space.true)

pub loop-run-preserved : goal.loop-run-preserved
loop-run-preserved c =
    let a = area_of c.args.space.now in
    let items = c.deref-run-items.result.now in
    let i = c.loop-run.run-index in
    elim c.if-run.branch [
      | then-run+in_ok-push_gap+else-run-space w ↦ (
          let at = is_at a items i c.deref-run-items.ensures.value c.loop-run-test.true w.if-run.true in
          listed_same a (i + 1) _ c.if-run.first _ c.if-run.blocks.items (w.first-is ∙ w.max-first.ensures)
          (ap (λ (v : Vec Run Global). v.items) w.blocks-is ∙ w.in_ok-push_gap.ensures)
          (listed_more a i c.loop-run.first c.loop-run.blocks.items c.loop-run.invariant c.requires
          (run_at items i) at w.if-run-space.false))
      | else-run w ↦ listed_same a (i + 1) c.loop-run.first c.if-run.first c.loop-run.blocks.items c.if-run.blocks.items w.first-is
          (ap (λ (v : Vec Run Global). v.items) w.blocks-is)
          (listed_none a i c.loop-run.first c.loop-run.blocks.items c.loop-run.invariant c.requires items
          c.deref-run-items.ensures.value c.loop-run-test.true w.if-run.false)
    ]

pub returns : goal.returns
returns c =
    let a = area_of c.args.space.now in
    subst (λ (l : List Run). AreBlocks a l) (sym c.in_ok-push.ensures.items)
    (all_listed a c.loop-run.run-index c.loop-run.first c.loop-run.blocks.items c.loop-run.invariant c.requires
    (subst (λ (xs : List Run). length xs ≤ c.loop-run.run-index) c.deref-run-items.ensures.value c.loop-run-test.false))
