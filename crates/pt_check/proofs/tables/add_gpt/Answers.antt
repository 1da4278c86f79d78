use Rattle.std.proofs.Common.{rules, ◌<◌, arith}
use Rattle.pt_check.proofs.Adding.{on_ok, adds_ends, adds_start_only}
use Rattle.pt_check.proofs.tables.add_gpt.Goals as goal

pub returns-then-sectors-eq0 : goal.returns-then-sectors-eq0
returns-then-sectors-eq0 g c =
    adds_start_only g.row.B c.args.sectors c.args.tables.now c.add.new.self c.first_usable-edge.result c.first_usable-edge.ensures.value
    c.if-sectors-eq0.true c.in_ok-add.ensures

pub returns : goal.returns
returns g c =
    let some : 0 < c.args.sectors = omega (arith, c.if-sectors-eq0.false) in
    on_ok c.add-2.result _ _
    (λ second. adds_ends g.row.B c.args.sectors c.args.tables.now c.add.new.self c.add-2.new.self c.first_usable-edge.result
    c.first_usable-edge.ensures.value some c.in_ok-add.ensures (search (rules, second))) c.add-2.ensures
