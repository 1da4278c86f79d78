use Rattle.std.proofs.Common.{◌≡◌, ◌≤◌, ◌+◌, ◌∙◌, List, [], subst, ap, length, refl}
use Rattle.std.specs.Prelude.{Option, IfSome}
use Rattle.pt_edit.specs.declared.space.Run.{Run}
use Rattle.pt_edit.specs.Space.{area_of, longest, longer_of}
use Rattle.pt_edit.proofs.AllBlocks.{all_listed, listed_at_end, listed_more, listed_none, listed_same, none_listed, none_usable}
use Rattle.pt_edit.proofs.AllBlocks.{longest_end, longest_past, longest_some}
use Rattle.pt_edit.proofs.Gaps.{run_at, is_at}
use Rattle.pt_edit.proofs.Grouping.{blocks_same}
use Rattle.pt_edit.proofs.space.block.sweep.Goals as goal
use Rattle.pt_edit.proofs.space.block.sweep.Goals.{then-run+else-run-space, else-run}

pub returns-then-space : goal.returns-then-space
returns-then-space c =
    let a = area_of c.args.space.now in
    ap (longest a c.args.alignment) (blocks_same a [] (none_usable a c.if-space.true))

pub loop-run-init : goal.loop-run-init
loop-run-init c = record { blocks = _; listed = none_listed (area_of c.args.space.now) c.if-space.false; best_is = refl }

some : (a : _) (alignment : _) (best : Option Run) (blocks : List Run) → best ≡ longest a alignment blocks
    → IfSome best (λ r. r.first ≤ r.last)
some a alignment best blocks is = rw is (longest_some a alignment blocks)

pub past_gap-best-requires : goal.past_gap-best-requires
past_gap-best-requires c = let swept = c.loop-run.invariant in some (area_of c.args.space.now) c.args.alignment _ swept.blocks swept.best_is

pub returns-then-run-space : goal.returns-then-run-space
returns-then-run-space c =
    let a = area_of c.args.space.now in
    let swept = c.loop-run.invariant in
    let items = c.deref-run-items.result.now in
    let run = run_at items c.loop-run.run-index in
    let at = is_at a items c.loop-run.run-index c.deref-run-items.ensures.value c.loop-run-test.true c.if-run.true in
    let are = listed_at_end a c.loop-run.run-index c.loop-run.first swept.blocks swept.listed c.requires run at c.if-run-space.true in
    c.past_gap-best.ensures
    ∙ (longest_past a c.args.alignment swept.blocks c.loop-run.best c.loop-run.first run swept.best_is
    ∙ ap (longest a c.args.alignment) (blocks_same a _ are))

pub loop-run-preserved : goal.loop-run-preserved
loop-run-preserved c =
    let a = area_of c.args.space.now in
    let swept = c.loop-run.invariant in
    let items = c.deref-run-items.result.now in
    let i = c.loop-run.run-index in
    let run = run_at items i in
    elim c.if-run.branch [
      | then-run+else-run-space w ↦ (let at = is_at a items i c.deref-run-items.ensures.value c.loop-run-test.true w.if-run.true in
          record {
            blocks = _;
            listed = listed_same a (i + 1) _ c.if-run.first _ _ (w.first-is ∙ w.max-first.ensures) refl
                (listed_more a i c.loop-run.first swept.blocks swept.listed c.requires run at w.if-run-space.false);
            best_is = w.best-is
                ∙ (w.past_gap-best.ensures
                ∙ longest_past a c.args.alignment swept.blocks c.loop-run.best c.loop-run.first run swept.best_is);
          })
      | else-run w ↦ record {
        blocks = swept.blocks;
        listed = listed_same a (i + 1) _ c.if-run.first _ _ w.first-is refl
            (listed_none a i c.loop-run.first swept.blocks swept.listed c.requires items c.deref-run-items.ensures.value
            c.loop-run-test.true w.if-run.false);
        best_is = w.best-is ∙ swept.best_is;
      }
    ]

pub longer-requires-clause-best : goal.longer-requires-clause-best
longer-requires-clause-best c = let swept = c.loop-run.invariant in
    some (area_of c.args.space.now) c.args.alignment _ swept.blocks swept.best_is

pub returns : goal.returns
returns c =
    let a = area_of c.args.space.now in
    let swept = c.loop-run.invariant in
    let are = all_listed a c.loop-run.run-index c.loop-run.first swept.blocks swept.listed c.requires
    (subst (λ (xs : List Run). length xs ≤ c.loop-run.run-index) c.deref-run-items.ensures.value c.loop-run-test.false) in
    (c.longer.ensures ∙ ap (longer_of c.loop-run.best) c.part_in.ensures)
    ∙ (longest_end a c.args.alignment swept.blocks c.loop-run.best _ swept.best_is ∙ ap (longest a c.args.alignment) (blocks_same a _ are))
