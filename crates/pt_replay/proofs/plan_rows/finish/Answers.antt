use Rattle.std.proofs.Common.{arith}
use Rattle.pt_replay.proofs.PlanRows.{ends_rows, ends_sectors, ends_full}
use Rattle.pt_replay.proofs.plan_rows.finish.Goals as goal

pub returns-then-len-eq0-clause-rows : goal.returns-then-len-eq0-clause-rows
returns-then-len-eq0-clause-rows g c =
    ends_rows c.args.partial.phases.items c.args.partial.last.items (let a = c.if-len-eq0.true in let e = c.len.ensures in let ok =
    c.args.partial.last.ok.0 in omega (arith, a, e, ok))

pub returns-then-len-eq0-clause-sectors : goal.returns-then-len-eq0-clause-sectors
returns-then-len-eq0-clause-sectors g c =
    ends_sectors c.args.partial.phases.items c.args.partial.last.items (let a = c.if-len-eq0.true in let e = c.len.ensures in let ok =
    c.args.partial.last.ok.0 in omega (arith, a, e, ok))

pub returns-clause-full : goal.returns-clause-full
returns-clause-full g c =
    ends_full c.args.partial.phases.items c.push.new.self.items c.args.partial.last c.in_ok-push.ensures.items
    (let a = c.if-len-eq0.false in let e = c.len.ensures in let ok = c.args.partial.last.ok.0 in omega (arith, a, e, ok))
