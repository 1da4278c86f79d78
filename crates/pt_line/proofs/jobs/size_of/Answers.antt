use Rattle.std.proofs.Common.{codes, sym}
use Rattle.clap.specs.Words.{found_of, rows_of}
use Rattle.pt_line.proofs.Values.{sized_by, value_is}
use Rattle.pt_line.proofs.jobs.size_of.Goals as goal

pub returns-in-Some : goal.returns-in-Some
returns-in-Some c =
    sized_by (rows_of (found_of c.args.matches.now)) _ (rw c.in-Some.is at
    (value_is (found_of c.args.matches.now)
    (codes "sector-size") c.get_str.result c.get_str.ensures)) c.size_named.result c.size_named.ensures

pub returns-in-None : goal.returns-in-None
returns-in-None c = sym (rw c.in-None.is at (value_is (found_of c.args.matches.now) (codes "sector-size") c.get_str.result
    c.get_str.ensures))
