use Rattle.std.proofs.Common.{◌∙◌, arith}
use Rattle.pt_recover.proofs.Whole.{places_within}
use Rattle.pt_replay.proofs.wanting.wanted_places.Goals as goal

pub wanted_among-requires : goal.wanted_among-requires
wanted_among-requires g c = (
  omega arith,
  (
    c.requires.size,
    places_within g.row.B c.sectors-sectors.result c.args.disk.now.sectors c.args.body.now c.deref.result.now
        (c.deref.ensures.value ∙ c.in_ok-slices.ensures.value) c.sectors-sectors.ensures,
  ),
)
