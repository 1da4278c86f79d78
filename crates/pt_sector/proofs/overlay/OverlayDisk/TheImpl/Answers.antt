use Rattle.std.proofs.Common.{ap}
use Rattle.pt_sector.proofs.overlay.OverlayDisk.TheImpl.Goals as goal

-- a flush is done, so all that is told of a failure holds
pub flush-tells : goal.flush-tells
flush-tells g c = record {
  count = ap g.D.Disk.count c.ensures.disk;
  name = c.ensures.name;
  blames = rw c.ensures.ok (ap (λ f. f.items) c.ensures.faults);
  fault = rw c.ensures.ok tt;
  done = λ tells. rw c.ensures.ok c.ensures.done;
  failed = λ tells. rw c.ensures.ok tt;
}
