use Rattle.std.proofs.Common.{◌≡◌, ◌∙◌, ◌++◌, ℕ, ◌+◌, ◌-◌, ap, arith, string_bytes}
use Rattle.std.specs.Prelude.{flat_map}
use Rattle.pt_human.specs.Bar.{cell_bytes, from_on}
use Rattle.pt_human.proofs.Joined.{next_piece, no_piece}
use Rattle.pt_human.proofs.bar.push_cells.Goals as goal

pub loop-k-preserved : goal.loop-k-preserved
loop-k-preserved c =
    let left : 60 - c.loop-k.k - 1 ≡ 60 - (c.loop-k.k + 1) = omega arith in
    next_piece _ _ _ _ _ c.loop-k.invariant _ (omega (arith, c.loop-k-test.true)) c.in_ok-push_cell.ensures
    ∙ ap (λ (n : ℕ). string_bytes c.push_cell.new.text
    ++ flat_map (cell_bytes c.args.sectors c.args.lines.now) (from_on (c.loop-k.k + 1) n)) left

pub returns : goal.returns
returns c = no_piece _ _ _ _ _ c.loop-k.invariant (omega (arith, c.loop-k-test.false))
