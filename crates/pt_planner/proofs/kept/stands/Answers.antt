use Rattle.std.proofs.Common.{◌≡◌, ◌∙◌, ◌<◌, ℕ, refl, sym, subst, arith}
use Rattle.std.proofs.lemmas.Result.{err_from_is_err_and}
use Rattle.pt_sector.specs.Device.{Told}
use Rattle.pt_sector.specs.Sectors.{sector}
use Rattle.pt_planner.proofs.Standing.{range_there, stand_more, stand_all, stand_not, written_there}
use Rattle.pt_planner.proofs.Touching.{unless, when}
use Rattle.pt_planner.proofs.kept.stands.Goals as goal

pub loop-write-init : goal.loop-write-init
loop-write-init g c = record { same = g.met.D.Disk.reads_same c.args.disk.now; quiet = refl; stand = λ tells s v puts. absurd puts }

pub holds-requires : goal.holds-requires
holds-requires g c = (
  omega arith,
  subst (λ (n : ℕ). c.write-item.result.lba.0 < n) (sym c.loop-write.invariant.same.same_count)
      (range_there (g.D.Disk.count c.args.disk.now) c.args.writes.now c.loop-write.write-index c.write-item.result c.loop-write-test.true
      c.write-item.is c.requires),
)

pub returns-in_err-holds-clause-place : goal.returns-in_err-holds-clause-place
returns-in_err-holds-clause-place g c =
    let p = err_from_is_err_and c.from_residual.result c.from_residual.ensures.1 in
    rw (p.1, p.2) (written_there c.args.writes.now c.loop-write.write-index c.write-item.result c.in_err-holds.field-0.0.0
    c.loop-write-test.true c.write-item.is c.in_err-holds.ensures.place)

pub returns-then-not-branch-clause-stands : goal.returns-then-not-branch-clause-stands
returns-then-not-branch-clause-stands g c = λ tells.
    stand_not (g.D.Disk.told c.args.disk.now).seen c.args.writes.now c.loop-write.write-index c.write-item.result c.loop-write-test.true
    c.write-item.is
    (subst (λ (t : Told). ¬ (sector t.seen c.write-item.result.lba.0 ≡ c.write-item.result.bytes))
    (c.loop-write.invariant.same.same tells)
    (unless _ (rw c.if-not-branch.true at (c.in_ok-holds.ensures.holds tells))))

pub loop-write-preserved : goal.loop-write-preserved
loop-write-preserved g c = record {
  same = g.met.D.Disk.reads_on c.args.disk.now c.loop-write.disk c.holds.new.disk c.loop-write.invariant.same c.in_ok-holds.ensures.same;
  quiet = c.in_ok-holds.ensures.blames ∙ c.loop-write.invariant.quiet;
  stand = λ tells. stand_more (g.D.Disk.told c.args.disk.now).seen c.args.writes.now c.loop-write.write-index c.write-item.result
      c.loop-write-test.true c.write-item.is (c.loop-write.invariant.stand tells)
      (subst (λ (t : Told). sector t.seen c.write-item.result.lba.0 ≡ c.write-item.result.bytes)
      (c.loop-write.invariant.same.same tells)
      (when _ (rw c.if-not-branch.false at (c.in_ok-holds.ensures.holds tells))));
}

pub returns-clause-stands : goal.returns-clause-stands
returns-clause-stands g c = λ tells.
    stand_all (g.D.Disk.told c.args.disk.now).seen c.args.writes.now c.loop-write.write-index (omega arith)
    (c.loop-write.invariant.stand tells)
