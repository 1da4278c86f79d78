use Rattle.pt_replay.specs.Wanted.{disk_of}
use Rattle.pt_replay.proofs.Saying.{none_located}
use Rattle.pt_replay.proofs.places.located.Goals as goal

pub returns : goal.returns
returns g c = record {
  says = none_located g.row.B c.args.view.now (disk_of g.row.B c.args.view.now c.args.elsewhere.items)
      c.args.number c.args.letter c.in-Some.path c.args.k c.in-Ok.layout c.of.result c.of.ensures
      c.in-Some.ensures.ok c.in-Some.ensures.named c.in-Ok.ensures.view c.in-Ok.ensures.ok c.in-None.ensures.none;
}
