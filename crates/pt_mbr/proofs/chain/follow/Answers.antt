use Rattle.std.proofs.Common.{◌+◌, ℕ, List, Option, rules, arith, ap, subst, sym, ◌∙◌, Some}
use Rattle.std.proofs.lemmas.Bool.{false≢true}
use Rattle.std.proofs.lemmas.Result.{err_from_is_err_and}
use Rattle.pt_sector.specs.Device.{with_fault, Told}
use Rattle.pt_sector.specs.declared.address.Lba.{Lba}
use Rattle.pt_sector.specs.declared.disk.Fault.{Fault}
use Rattle.pt_mbr.specs.Chain.{lba, span_of, fault_in, Walk, Chain}
use Rattle.pt_mbr.specs.Changes.{EndsIn}
use Rattle.pt_mbr.specs.inner.Changes.{StepsTo}
use Rattle.pt_mbr.proofs.Walks.{starts_out, too_long}
use Rattle.pt_mbr.proofs.Same.{inside_same}
use Rattle.pt_mbr.proofs.chain.follow.Goals as goal

pub returns-then-not-is_inside-clause-err : goal.returns-then-not-is_inside-clause-err
returns-then-not-is_inside-clause-err g c tells =
    starts_out (g.D.Disk.told c.args.disk.now).seen
    (span_of c.args.extent.now) c.args.list.now.items c.first_of-at.result c.requires.empty c.first_of-at.ensures.start
    (λ inside. false≢true (c.if-not-is_inside.ensures.1 (inside_same _ _ _ c.first_of-at.result
    (c.sectors-sectors.ensures ∙ sym (g.met.D.Disk.sized c.args.disk.now tells)) inside)))

pub loop-preserved : goal.loop-preserved
loop-preserved g c = record {
  same = g.met.D.Disk.reads_on c.args.disk.now c.loop.disk c.step.new.disk c.loop.invariant.same c.in_ok-next.ensures.same;
  quiet = c.in_ok-next.ensures.blames ∙ c.loop.invariant.quiet;
  long = c.in_ok-next.ensures.one_more ∙ ap (λ (n : ℕ). n + 1) c.loop.invariant.long;
  inside = search rules;
  reached = λ tells. let same = c.loop.invariant.same.same tells in search rules;
}

pub returns-in_err-next-clause-same : goal.returns-in_err-next-clause-same
returns-in_err-next-clause-same g c =
    g.met.D.Disk.reads_on c.args.disk.now c.loop.disk c.step.new.disk c.loop.invariant.same c.in_err-next.ensures.same

pub returns-in-None-clause-same : goal.returns-in-None-clause-same
returns-in-None-clause-same g c =
    g.met.D.Disk.reads_on c.args.disk.now c.loop.disk c.step.new.disk c.loop.invariant.same c.in_ok-next.ensures.same

pub returns-in_err-next-clause-err : goal.returns-in_err-next-clause-err
returns-in_err-next-clause-err g c tells =
    let p = err_from_is_err_and c.from_residual.result c.from_residual.ensures.1 in
    let same = c.loop.invariant.same.same tells in
    let walk =
    subst (λ (t : Told). Walk t.seen (span_of c.args.extent.now) (Some (lba (span_of c.args.extent.now).first)) c.loop.list.items
    (Some c.loop.at)) (sym same) (c.loop.invariant.reached tells) in
    rw (p.1, p.2) (subst (λ (t : Told). EndsIn t.seen
    (span_of c.args.extent.now) c.step.new.list.items c.in_err-next.field-0.0) same (c.in_err-next.ensures.err tells (omega arith) walk))

pub returns-clause-err : goal.returns-clause-err
returns-clause-err g c tells =
    too_long (g.D.Disk.told c.args.disk.now).seen (span_of c.args.extent.now) c.loop.list.items c.loop.at
    (c.loop.invariant.reached tells) (omega arith)
    (inside_same _ _ _ c.loop.at (g.met.D.Disk.sized c.args.disk.now tells) c.loop.invariant.inside)

pub returns-in_err-next-clause-blames : goal.returns-in_err-next-clause-blames
returns-in_err-next-clause-blames g c =
    let p = err_from_is_err_and c.from_residual.result c.from_residual.ensures.1 in
    rw (p.1, p.2) (c.in_err-next.ensures.blames ∙ ap (λ (l : List Fault). with_fault l (fault_in c.in_err-next.field-0.0))
    c.loop.invariant.quiet)

pub returns-in-None-clause-blames : goal.returns-in-None-clause-blames
returns-in-None-clause-blames g c = c.in_ok-next.ensures.blames ∙ c.loop.invariant.quiet

pub returns-in-None-clause-ok : goal.returns-in-None-clause-ok
returns-in-None-clause-ok g c tells =
    let same = c.loop.invariant.same.same tells in
    let walk =
    subst (λ (t : Told). Walk t.seen (span_of c.args.extent.now) (Some (lba (span_of c.args.extent.now).first)) c.loop.list.items
    (Some c.loop.at)) (sym same) (c.loop.invariant.reached tells) in
    let ended =
    subst (λ (o : Option Lba). StepsTo (g.D.Disk.told c.loop.disk).seen (span_of c.args.extent.now) c.loop.list.items c.loop.at
    c.step.new.list.items o) c.in-None.is (c.in_ok-next.ensures.ok tells) in
    subst (λ (t : Told). Chain t.seen (span_of c.args.extent.now) c.step.new.list.items) same (ended (omega arith) walk)

pub returns-clause-same : goal.returns-clause-same
returns-clause-same g c = c.loop.invariant.same

pub returns-clause-blames : goal.returns-clause-blames
returns-clause-blames g c = c.loop.invariant.quiet
