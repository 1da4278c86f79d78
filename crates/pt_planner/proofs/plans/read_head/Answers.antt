use Rattle.std.proofs.Common.{ap}
use Rattle.std.proofs.lemmas.Result.{err_from_is_err_and}
use Rattle.pt_sector.specs.declared.address.Lba.{Lba}
use Rattle.pt_planner.proofs.plans.read_head.Goals as goal

pub returns-in_err-read_sector : goal.returns-in_err-read_sector
returns-in_err-read_sector g c =
    let p = err_from_is_err_and c.from_residual.result c.from_residual.ensures.1 in
    record {
      same = c.in_err-read_sector.ensures.same;
      blames = rw (p.1, p.2) c.in_err-read_sector.ensures.blames;
      place = rw (p.1, p.2) (ap (λ (l : Lba). l.0) c.in_err-read_sector.ensures.fault);
      bytes = λ tells. rw p.1 tt;
    }

pub returns : goal.returns
returns g c = record {
  same = c.in_ok-read_sector.ensures.same;
  blames = c.in_ok-read_sector.ensures.blames;
  place = tt;
  bytes = λ tells. c.in_ok-read_sector.ensures.bytes tells;
}
