use Rattle.std.proofs.Common.{◌∙◌, ◌<◌, ◌+◌, ◌^◌, List, sym, subst, arith}
use Rattle.std.specs.Prelude.{All}
use Rattle.pt_members.specs.declared.layout.Slice.{Slice}
use Rattle.pt_members.proofs.LabelPlaces.{places_small}
use Rattle.pt_check.proofs.following.are_apart.Goals as goal

pub are_clear-requires : goal.are_clear-requires
are_clear-requires g c = record {
  size = c.requires;
  small = subst (λ (ss : List Slice). All (λ (p : Slice). p.first + 1 < 2 ^ 64) ss)
      (sym (c.deref.ensures.value ∙ c.in_ok-places.ensures.value))
      (places_small g.row.B c.args.sectors c.args.body.now (omega arith));
}
