use Rattle.std.proofs.Common.{sym}
use Rattle.pt_sector.specs.Sectors.{written}
use Rattle.pt_sector.specs.inner.ForFields.{length-written}
use Rattle.pt_apply.specs.Plans.{writes_of}
use Rattle.pt_check.proofs.ByCopies.{followed_of, followed_on}
use Rattle.pt_check.proofs.following.follow_writes.Goals as goal

pub returns-in-Some-followed : goal.returns-in-Some-followed
returns-in-Some-followed g c = λ d are.
    let here = followed_of g.row.B d c.args.layout.now c.args.followed.now c.in-Some.layout c.in-Gpt.table c.in-Some-followed.copies
    c.in-Some.is c.in-Gpt.is c.in-Some-followed.is are in
    let ws = writes_of c.args.phase.now in (
      c.in-Some.layout,
      c.in-Gpt.table,
      c.in-Some.is,
      followed_on g.row.B d (written ws d) c.in-Some.layout c.in-Gpt.table
          c.in-Some-followed.copies c.write_phase.new.self (length-written ws d) here
          (c.write_phase.ensures.copies d (sym here.sectors) here.copies) c.write_phase.ensures.deciding,
    )
