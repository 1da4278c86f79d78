use Rattle.std.proofs.Common.{◌≡◌, ◌+◌, ◌-◌, ◌∙◌, refl, sym, subst, ℕ, List, length, take, drop, get_or, None, arith}
use Rattle.std.proofs.lemmas.Bool.{false≢true}
use Rattle.std.proofs.lemmas.Result.{err_from_is_err_and}
use Rattle.pt_sector.specs.Device.{with_fault, Told}
use Rattle.pt_sector.specs.Overlays.{fault_of}
use Rattle.pt_sector.specs.Sectors.{Sectors}
use Rattle.pt_sector.specs.declared.disk.Fault.{Fault}
use Rattle.pt_mbr.specs.declared.ebr.Ebr.{Ebr}
use Rattle.pt_cases.specs.Unplanned.{IsUnmadeEbr}
use Rattle.pt_planner.specs.inner.Places.{IsEbrOf}
use Rattle.pt_planner.proofs.Begun.{begun_start, placed_start, begun_end, rest_of, unmade_at, begun_more, placed_more, ebr_failed}
use Rattle.pt_planner.proofs.chains.push_chain.Goals as goal

pub loop-k-init : goal.loop-k-init
loop-k-init g c = record {
  same = g.met.D.Disk.reads_same c.args.disk.now;
  quiet = refl;
  placed = λ head is. placed_start g.row.B head c.args.chain.now c.args.targets.now.items is;
  begun = λ tells head is. begun_start g.row.B (g.D.Disk.told c.args.disk.now).seen head c.args.old.now c.args.first.0 c.args.chain.now
      c.args.targets.now.items is;
}

pub loop-k-preserved : goal.loop-k-preserved
loop-k-preserved g c =
    let z : Ebr = record { at = record { 0 = 0 }; logical = None; next = None } in
    let chain : List Ebr = c.args.chain.now in
    let rest : List Ebr = take (length chain - (c.loop-k.k + 1)) (drop (c.loop-k.k + 1) chain) in
    let first : ℕ = c.args.first.0 in
    let added = c.in_ok-push_ebr.ensures.added c.if-not-branch.false in
    record {
      same = g.met.D.Disk.reads_on c.args.disk.now c.loop-k.disk c.push_ebr.new.disk c.loop-k.invariant.same c.in_ok-push_ebr.ensures.same;
      quiet = c.in_ok-push_ebr.ensures.blames ∙ c.loop-k.invariant.quiet;
      placed = λ head is. placed_more g.row.B head.at.0 chain c.loop-k.k z c.loop-k.targets.items added.target
          c.push_ebr.new.targets.items c.loop-k-test.true (c.loop-k.invariant.placed head is) added.is.0 added.pushed;
      begun = λ tells head is.
          (let d : Sectors = (g.D.Disk.told c.args.disk.now).seen in
          begun_more g.row.B d head c.args.old.now first chain c.loop-k.k z rest c.loop-k.targets.items added.target
          c.push_ebr.new.targets.items c.loop-k-test.true (rest_of chain c.loop-k.k)
          (c.loop-k.invariant.begun tells head is)
          (subst (λ (t : Told). IsEbrOf t.seen c.args.old.now first (get_or chain c.loop-k.k z) rest added.target)
          (c.loop-k.invariant.same.same tells) (added.is.1 tells)) added.pushed);
    }

pub returns-in_err-push_ebr : goal.returns-in_err-push_ebr
returns-in_err-push_ebr g c =
    let p = err_from_is_err_and c.from_residual.result c.from_residual.ensures.1 in
    record {
      same = g.met.D.Disk.reads_on c.args.disk.now c.loop-k.disk c.push_ebr.new.disk c.loop-k.invariant.same
          c.in_err-push_ebr.ensures.same;
      blames = rw (p.1, p.2)
          (subst (λ (l : List Fault). g.D.Disk.faults c.push_ebr.new.disk ≡ with_fault l (fault_of c.in_err-push_ebr.field-0.0))
          c.loop-k.invariant.quiet c.in_err-push_ebr.ensures.blames);
      failed = rw (p.1, p.2) (ebr_failed c.args.chain.now c.loop-k.k (record { at = record { 0 = 0 }; logical = None; next = None })
          c.in_err-push_ebr.field-0.0 c.loop-k-test.true c.in_err-push_ebr.ensures.failed);
      place = rw p.1 tt;
      some = λ tells. rw p.1 tt;
      none = λ tells. rw p.1 tt;
    }

pub returns-then-not-branch : goal.returns-then-not-branch
returns-then-not-branch g c = record {
  same = g.met.D.Disk.reads_on c.args.disk.now c.loop-k.disk c.push_ebr.new.disk c.loop-k.invariant.same c.in_ok-push_ebr.ensures.same;
  blames = c.in_ok-push_ebr.ensures.blames ∙ c.loop-k.invariant.quiet;
  failed = tt;
  place = λ good. absurd (false≢true good);
  some = λ tells good. absurd (false≢true good);
  none = λ tells bad.
      let z : Ebr = record { at = record { 0 = 0 }; logical = None; next = None } in
      let chain : List Ebr = c.args.chain.now in
      let rest : List Ebr = take (length chain - (c.loop-k.k + 1)) (drop (c.loop-k.k + 1) chain) in
      let first : ℕ = c.args.first.0 in
      unmade_at g.row.B (g.D.Disk.told c.args.disk.now).seen c.args.old.now first chain c.loop-k.k z rest c.loop-k-test.true
      (rest_of chain c.loop-k.k)
      (subst (λ (t : Told). IsUnmadeEbr g.row.B t.seen c.args.old.now first (get_or chain c.loop-k.k z) rest)
      (c.loop-k.invariant.same.same tells) (c.in_ok-push_ebr.ensures.none tells c.if-not-branch.true));
}

pub returns : goal.returns
returns g c = record {
  same = c.loop-k.invariant.same;
  blames = c.loop-k.invariant.quiet;
  failed = tt;
  place = λ good head is. c.loop-k.invariant.placed head is;
  some = λ tells good head is.
      begun_end _ _ _ _ _ _ c.loop-k.k _ (omega arith) (omega arith) (c.loop-k.invariant.begun tells head is);
  none = λ tells bad. absurd (false≢true (sym bad));
}
