use Rattle.std.proofs.Common.{arith, true, false, ◌≡◌}
use Rattle.pt_members.proofs.LabelPlaces.{no_place}
use Rattle.pt_members.specs.Tables.{IsGptTable}
use Rattle.pt_check.proofs.ByCopies.{clear_more}
use Rattle.pt_check.proofs.following.are_clear.Goals as goal

pub loop-k-preserved : goal.loop-k-preserved
loop-k-preserved g c =
    clear_more (IsGptTable g.row.B c.args.sectors) c.args.slices.now c.loop-k.k no_place (omega arith) c.loop-k.invariant
    (λ is. let no : false ≡ true = c.if-is_at_end.ensures.1 is in absurd cc)
