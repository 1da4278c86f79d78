use Rattle.std.proofs.Common.{length, arith, ap, sym, ◌∙◌}
use Rattle.std.proofs.lemmas.Bool.{false≢true}
use Rattle.std.proofs.lemmas.Result.{err_from_is_err_and}
use Rattle.std.proofs.lemmas.List.{length_push}
use Rattle.pt_mbr.specs.declared.ebr.Ebr.{Ebr}
use Rattle.pt_mbr.specs.Chain.{span_of}
use Rattle.pt_mbr.proofs.Walks.{chain_ends, walk_on, links_down, links_outside}
use Rattle.pt_mbr.proofs.Same.{inside_same}
use Rattle.pt_mbr.proofs.chain.step.Goals as goal

pub returns-in_err-ebr-clause-err : goal.returns-in_err-ebr-clause-err
returns-in_err-ebr-clause-err g c tells =
    let p = err_from_is_err_and c.from_residual.result c.from_residual.ensures.1 in
    rw (p.1, p.2) (λ few walk. c.in_err-ebr.ensures.err tells c.args.list.now.items few walk)

pub returns-in-None-clause-ok : goal.returns-in-None-clause-ok
returns-in-None-clause-ok g c tells few walk =
    chain_ends (g.D.Disk.told c.args.disk.now).seen
    (span_of c.args.extent.now) c.args.list.now.items c.args.at c.in_ok-ebr.ebr c.push.new.self.items
    walk few (c.in_ok-ebr.ensures.ok tells) c.in-None.is c.push.ensures.items

pub returns-then-next-at-clause-err : goal.returns-then-next-at-clause-err
returns-then-next-at-clause-err g c tells few walk =
    links_down (g.D.Disk.told c.args.disk.now).seen
    (span_of c.args.extent.now) c.args.list.now.items c.args.at c.in_ok-ebr.ebr c.in-Some.next c.push.new.self.items
    walk few (c.in_ok-ebr.ensures.ok tells) c.in-Some.is c.if-next-at.true c.push.ensures.items

pub returns-then-not-is_inside-clause-err : goal.returns-then-not-is_inside-clause-err
returns-then-not-is_inside-clause-err g c tells few walk =
    links_outside (g.D.Disk.told c.args.disk.now).seen
    (span_of c.args.extent.now) c.args.list.now.items c.args.at c.in_ok-ebr.ebr c.in-Some.next c.push.new.self.items
    walk few (c.in_ok-ebr.ensures.ok tells) c.in-Some.is c.if-next-at.false c.push.ensures.items
    (λ inside. false≢true (c.if-not-is_inside.ensures.1 (inside_same _ _ _ c.in-Some.next
    (c.sectors-sectors.ensures ∙ sym (g.met.D.Disk.sized c.args.disk.now tells)) inside)))

pub returns-clause-ok : goal.returns-clause-ok
returns-clause-ok g c tells walk =
    walk_on (g.D.Disk.told c.args.disk.now).seen
    (span_of c.args.extent.now) c.args.list.now.items c.args.at c.in_ok-ebr.ebr c.in-Some.next c.push.new.self.items
    walk (c.in_ok-ebr.ensures.ok tells) c.in-Some.is c.if-next-at.false c.push.ensures.items

pub returns-in_err-ebr-clause-same : goal.returns-in_err-ebr-clause-same
returns-in_err-ebr-clause-same g c = c.in_err-ebr.ensures.same

pub returns-in_err-ebr-clause-blames : goal.returns-in_err-ebr-clause-blames
returns-in_err-ebr-clause-blames g c =
    let p = err_from_is_err_and c.from_residual.result c.from_residual.ensures.1 in rw (p.1, p.2) c.in_err-ebr.ensures.blames

pub returns-in-None-clause-one_more : goal.returns-in-None-clause-one_more
returns-in-None-clause-one_more g c =
    omega (arith, ap (length {A = Ebr}) c.push.ensures.items, length_push c.args.list.now.items c.in_ok-ebr.ebr)

pub returns-clause-one_more : goal.returns-clause-one_more
returns-clause-one_more g c = omega (arith, ap (length {A = Ebr}) c.push.ensures.items, length_push c.args.list.now.items c.in_ok-ebr.ebr)

pub returns-in-None-clause-same : goal.returns-in-None-clause-same
returns-in-None-clause-same g c = c.in_ok-ebr.ensures.same

pub returns-in-None-clause-blames : goal.returns-in-None-clause-blames
returns-in-None-clause-blames g c = c.in_ok-ebr.ensures.blames

pub returns-then-next-at-clause-same : goal.returns-then-next-at-clause-same
returns-then-next-at-clause-same g c = c.in_ok-ebr.ensures.same

pub returns-then-next-at-clause-blames : goal.returns-then-next-at-clause-blames
returns-then-next-at-clause-blames g c = c.in_ok-ebr.ensures.blames

pub returns-then-not-is_inside-clause-same : goal.returns-then-not-is_inside-clause-same
returns-then-not-is_inside-clause-same g c = c.in_ok-ebr.ensures.same

pub returns-then-not-is_inside-clause-blames : goal.returns-then-not-is_inside-clause-blames
returns-then-not-is_inside-clause-blames g c = c.in_ok-ebr.ensures.blames

pub returns-clause-same : goal.returns-clause-same
returns-clause-same g c = c.in_ok-ebr.ensures.same

pub returns-clause-blames : goal.returns-clause-blames
returns-clause-blames g c = c.in_ok-ebr.ensures.blames
