use Rattle.std.proofs.Common.{◌∙◌, ◌<◌, ◌+◌, ◌^◌, List, sym, subst, arith}
use Rattle.std.specs.Prelude.{All}
use Rattle.pt_members.specs.declared.layout.Slice.{Slice}
use Rattle.pt_members.proofs.LabelPlaces.{places_small}
use Rattle.pt_check.proofs.given.deciding.Goals as goal

pub add_labels-requires : goal.add_labels-requires
add_labels-requires g c =
    subst (λ (ss : List Slice). All (λ (p : Slice). p.first + 1 < 2 ^ 64) ss) (sym (c.deref.ensures.value ∙ c.in_ok-places.ensures.value))
    (places_small g.row.B c.args.sectors c.args.body.now (omega arith))
