use Rattle.std.proofs.Common.{◌≤◌, ◌∙◌, List, sym, subst, arith}
use Rattle.pt_gpt.specs.Copies.{edge}
use Rattle.pt_edit.specs.inner.Entries.{Placeable}
use Rattle.pt_edit.specs.declared.partitions.Partition.{Partition}
use Rattle.pt_edit.proofs.Numbers.{placed, room_for}
use Rattle.pt_edit.proofs.convert.to_gpt.Goals as goal

pub table_for-requires-clause-placeable : goal.table_for-requires-clause-placeable
table_for-requires-clause-placeable g c =
    subst (λ (ps : List Partition). Placeable c.args.layout.sectors ps) (sym (c.deref-2.ensures.value ∙ c.in_ok-partitions.ensures.are))
    (placed g.row.B c.args.layout c.in_ok-partitions.ensures.four c.in_ok-check.ensures.room)

pub table_for-requires-clause-room : goal.table_for-requires-clause-room
table_for-requires-clause-room g c =
    let room = room_for g.row.B c.args.layout c.in_ok-check.ensures.room in
    let e : edge g.row.B ≤ c.args.layout.sectors = omega arith in e
