use Rattle.std.proofs.Common.{sym}
use Rattle.pt_check.proofs.ByCopies.{deciding_as, runs_as}
use Rattle.pt_check.proofs.following.Followed.decided.Goals as goal

pub returns-clause-followed : goal.returns-clause-followed
returns-clause-followed g c = λ d is.
    let old = deciding_as g.row.B _ _ c.args.layout.now.body _ _ c.args.self.now.deciding.items (sym is.sectors) (sym c.len-count.ensures)
    is.deciding in
    record {
      sectors = is.sectors;
      is_gpt = is.is_gpt;
      apart = is.apart;
      copies = record { primary = is.copies.primary; backup = is.copies.backup };
      deciding = deciding_as g.row.B _ _ c.args.layout.now.body _ _ c.deciding_of.new.known.items is.sectors c.len-count.ensures
          (c.in_ok-trace.ensures.known old);
    }

pub returns-clause-decided : goal.returns-clause-decided
returns-clause-decided g c = λ d is.
    let old = deciding_as g.row.B _ _ c.args.layout.now.body _ _ c.args.self.now.deciding.items (sym is.sectors) (sym c.len-count.ensures)
    is.deciding in
    let found = c.in_ok-trace.ensures.ok old in (
      c.in-Some.given,
      c.in-Some.ensures d is.copies,
      runs_as g.row.B _ _ c.args.layout.now.body _ _ c.in-Some.given c.in_ok-trace.trace is.sectors c.len-count.ensures found,
    )
