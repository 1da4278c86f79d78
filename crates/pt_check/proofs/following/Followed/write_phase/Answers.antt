use Rattle.std.proofs.Common.{◌≡◌, ◌∙◌, ◌≤◌, ℕ, List, length, drop, refl, sym, ap, subst, arith}
use Rattle.std.proofs.lemmas.List.{drop_all, length-map, length-set}
use Rattle.pt_sector.specs.Sectors.{Sectors, Writes, written}
use Rattle.pt_apply.specs.Plans.{writes_of}
use Rattle.pt_apply.proofs.ItemsLemmas.{drop-writes}
use Rattle.pt_apply.specs.declared.plan.Write.{Write}
use Rattle.pt_check.specs.inner.Following.{AreCopies}
use Rattle.pt_check.proofs.following.Followed.write_phase.Goals as goal

pub loop-write-init : goal.loop-write-init
loop-write-init g c = record {
  copies = λ d count copies. (d, count, refl, copies);
  deciding = refl;
}

pub loop-write-preserved : goal.loop-write-preserved
loop-write-preserved g c = record {
  copies = λ d count copies.
      let was = c.loop-write.invariant.copies d count copies in
      let w = c.write-item.result in (
        _,
        length-set was.0 w.lba.0 w.bytes ∙ was.1,
        (rw (drop-writes c.args.phase.now c.loop-write.write-index w c.loop-write-test.true c.write-item.is) at was.2),
        c.write.ensures.copies was.0 was.1 was.3,
      );
  deciding = c.write.ensures.deciding ∙ c.loop-write.invariant.deciding;
}

pub returns-clause-copies : goal.returns-clause-copies
returns-clause-copies g c = λ d count copies.
    let end = c.loop-write.invariant.copies d count copies in
    let past : length (writes_of c.args.phase.now) ≤ c.loop-write.write-index =
    let as_write : Write g.row.B → ℕ × List ℕ = λ v. (v.lba.0, v.bytes) in
    omega (arith, c.loop-write-test.false, length-map c.args.phase.now as_write) in
    let none : drop c.loop-write.write-index (writes_of c.args.phase.now) ≡ _ =
    drop_all c.loop-write.write-index (writes_of c.args.phase.now) past in
    let same : end.0 ≡ written (writes_of c.args.phase.now) d = sym (ap (λ (ws : Writes). written ws end.0) none) ∙ end.2 in
    subst (λ (x : Sectors). AreCopies g.row.B x c.args.table.now c.loop-write.self) same end.3

pub returns-clause-deciding : goal.returns-clause-deciding
returns-clause-deciding g c = c.loop-write.invariant.deciding
