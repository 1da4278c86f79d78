use Rattle.std.proofs.Common.{◌≤◌, ◌+◌, ℕ, List, length, sym, subst, arith}
use Rattle.pt_edit.specs.declared.space.Run.{Run}
use Rattle.pt_edit.specs.Space.{area_of}
use Rattle.pt_edit.proofs.BlockEnds.{EndsAfter, ends_before, ends_elsewhere, ends_all}
use Rattle.pt_edit.proofs.space.block.block_end.Goals as goal
use Rattle.pt_edit.proofs.space.block.block_end.Goals.{then-first-run+then-run+then-run-last, else-first-run}
use Rattle.pt_edit.proofs.space.block.block_end.Goals.{else-first-run-via-then-first-run+then-run+else-run-last}
use Rattle.pt_edit.proofs.space.block.block_end.Goals.{else-first-run-via-then-first-run+else-run, else-first-run-via-else-first-run}

pub loop-run-preserved : goal.loop-run-preserved
loop-run-preserved c =
    let a = area_of c.args.space.now in
    let i = c.loop-run.run-index in
    let first = c.args.first in
    let last = c.loop-run.last in
    let items = c.deref-run-items.result.now in
    let list = c.deref-run-items.ensures.value in
    let inside = c.loop-run-test.true in
    let ends = c.loop-run.invariant in
    elim c.if-first-run.branch [
      | then-first-run+then-run+then-run-last w ↦ subst (λ (n : ℕ). EndsAfter a (i + 1) first n) (sym w.last-is)
          (ends_before a i first last items list inside c.requires ends w.if-first-run.true w.if-run.true w.if-run-last.true)
      | else-first-run w ↦ subst (λ (n : ℕ). EndsAfter a (i + 1) first n) (sym w.last-is)
          (ends_elsewhere a i first last items list inside c.requires ends (elim w.else-first-run.branch [
            | else-first-run-via-then-first-run+then-run+else-run-last v ↦ (λ lt some. omega arith)
            | else-first-run-via-then-first-run+else-run v ↦ (λ lt some. omega arith)
            | else-first-run-via-else-first-run v ↦ (λ lt some. omega arith)
          ]))
    ]

pub returns : goal.returns
returns c =
    let all = subst (λ (xs : List Run). length xs ≤ c.loop-run.run-index) c.deref-run-items.ensures.value c.loop-run-test.false in
    ends_all (area_of c.args.space.now) c.loop-run.run-index c.args.first c.loop-run.last all c.requires c.loop-run.invariant
