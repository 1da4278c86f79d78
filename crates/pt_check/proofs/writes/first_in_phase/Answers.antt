use Rattle.std.proofs.Common.{rules}
use Rattle.pt_check.proofs.Firsts.{write_at, none_more, none_past, all_below}
use Rattle.pt_check.proofs.writes.first_in_phase.Goals as goal

pub loop-k-preserved : goal.loop-k-preserved
loop-k-preserved g c = none_more (g.T.Objection.against c.args.objection.now) _ c.loop-k.k _ c.loop-k.invariant
    (write_at c.args.phase.now c.loop-k.k c.index-phase-k.result c.loop-k-test.true c.index-phase-k.is)
    (search rules)

pub returns : goal.returns
returns g c =
    none_past (g.T.Objection.against c.args.objection.now) _
    (all_below _ c.args.phase.now c.loop-k.k c.loop-k-test.false c.loop-k.invariant)

pub returns-then-objects : goal.returns-then-objects
returns-then-objects g c = (
  _,
  record {
    at = write_at c.args.phase.now c.loop-k.k c.index-phase-k.result c.loop-k-test.true c.index-phase-k.is;
    is = search rules;
    none_before = c.loop-k.invariant;
  },
)
