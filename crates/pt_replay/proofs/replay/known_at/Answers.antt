use Rattle.std.proofs.Common.{◌∙◌, sym}
use Rattle.pt_replay.proofs.FirstPlaces.{known_past}
use Rattle.pt_replay.proofs.replay.known_at.Goals as goal

pub returns : goal.returns
returns g c = sym (known_past c.args.numbers.now c.args.known.now c.args.number c.in-Some.place c.requires.paired
    (sym c.place.ensures ∙ c.in-Some.is) c.if-place-known.false)
