use Rattle.std.proofs.Common.{rules}
use Rattle.pt_layout.proofs.OwnPlaces.{own_then}
use Rattle.pt_layout.proofs.sound.buried.buried_in.Goals as goal

pub returns-then-is_own_place : goal.returns-then-is_own_place
returns-then-is_own_place g c =
    own_then g.row.B c.args.layout.now c.args.m.now c.in_ok-table.table c.table_within-then-is_own_place.result (search rules)
    c.in_ok-table.ensures (c.is_own_place.ensures.0 c.if-is_own_place.true) c.table_within-then-is_own_place.ensures
