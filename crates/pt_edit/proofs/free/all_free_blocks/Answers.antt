use Rattle.std.proofs.Common.{◌∷◌, [], None, subst}
use Rattle.pt_edit.specs.Free.{extended_places, free_area, place_of, slice_places}
use Rattle.pt_edit.specs.Space.{Area}
use Rattle.pt_edit.specs.inner.Free.{Adds}
use Rattle.pt_edit.proofs.FreeLists.{all_three}
use Rattle.pt_edit.proofs.free.all_free_blocks.Goals as goal

pub returns : goal.returns
returns g c =
    let o = c.args.layout.now in
    let own = subst (λ (a : Area). Adds (place_of None a ∷ []) c.new-list.result.items c.push_blocks.new.list.items)
    c.in_ok-space.ensures.area c.in_ok-push_blocks.ensures in
    all_three (place_of None (free_area o)) (extended_places o.body) (slice_places g.row.B o) c.new-list.result.items
    c.push_blocks.new.list.items c.push_extended.new.list.items c.push_slices.new.list.items c.new-list.ensures.items own
    c.in_ok-push_extended.ensures c.in_ok-push_slices.ensures
