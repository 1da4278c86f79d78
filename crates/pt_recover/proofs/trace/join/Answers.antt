use Rattle.std.proofs.Common.{◌≡◌, ◌<◌, ◌≤◌, ◌∙◌, sym, subst, List, length, arith}
use Rattle.std.specs.List.{insert}
use Rattle.pt_recover.specs.Spans.{Apart}
use Rattle.pt_recover.specs.inner.Spans.{joined}
use Rattle.pt_recover.specs.declared.trace.TracedRun.{TracedRun}
use Rattle.pt_recover.proofs.Joined.{apart_none, apart_joined, some_hull, stands_below, stands_touching, stands_above, stands_end}
use Rattle.pt_recover.proofs.trace.join.Goals as goal
use Rattle.pt_recover.proofs.trace.join.Goals.{else-loop-at-test, then-loop-at-test+in-Above}

pub loop-at-preserved-in-Below : goal.loop-at-preserved-in-Below
loop-at-preserved-in-Below c =
    let whole : List TracedRun = joined c.args.new c.args.runs.now.items in
    let lt : c.loop-at.at < length c.loop-at.runs.items = omega (arith, c.loop-at-test.true, c.len.ensures) in
    record {
      inside = omega (arith, lt);
      some = c.loop-at.invariant.some;
      stands =
          stands_below whole c.loop-at.runs.items c.loop-at.at c.index.result.now c.index.result.now c.loop-at.run lt
          (sym c.index.ensures) c.in-Below.ensures c.loop-at.invariant.stands;
    }

pub loop-at-preserved : goal.loop-at-preserved
loop-at-preserved c =
    let whole : List TracedRun = joined c.args.new c.args.runs.now.items in
    let lt : c.loop-at.at < length c.loop-at.runs.items = omega (arith, c.loop-at-test.true, c.len.ensures) in
    record {
      inside = omega (arith, lt, c.remove-run.ensures.len);
      some = subst (λ (r : TracedRun). r.first ≤ r.last) (sym c.hull-run.ensures)
          (some_hull c.loop-at.run c.index.result.now c.loop-at.invariant.some);
      stands =
          stands_touching whole c.loop-at.runs.items c.remove-run.new.self.items c.loop-at.at c.index.result.now c.index.result.now
          c.loop-at.run c.hull-run.result lt (sym c.index.ensures) c.in-Touching.ensures c.loop-at.invariant.stands
          c.remove-run.ensures.items c.hull-run.ensures;
    }

pub returns-in-Ok-clause-ok : goal.returns-in-Ok-clause-ok
returns-in-Ok-clause-ok c =
    let whole : List TracedRun = joined c.args.new c.args.runs.now.items in
    let put : insert c.loop-at.runs.items c.loop-at.at c.loop-at.run ≡ whole = elim c.loop-at-test.branch [
      | else-loop-at-test w ↦ stands_end whole c.loop-at.runs.items c.loop-at.at c.loop-at.run
          (omega (arith, w.loop-at-test.false, c.len.ensures)) c.loop-at.invariant.stands
      | then-loop-at-test+in-Above w ↦
          stands_above whole c.loop-at.runs.items c.loop-at.at w.index.result.now w.index.result.now c.loop-at.run
          (omega (arith, w.loop-at-test.true, c.len.ensures)) (sym w.index.ensures) w.in-Above.ensures c.loop-at.invariant.stands
    ] in
    ◌∙◌ {A = List TracedRun} c.in-Ok.ensures.items put

pub returns-in-Ok-clause-apart : goal.returns-in-Ok-clause-apart
returns-in-Ok-clause-apart c =
    subst (λ (l : List TracedRun). Apart l) (sym (returns-in-Ok-clause-ok c))
    (apart_joined c.args.new c.args.runs.now.items c.requires.some c.requires.apart)

pub returns-in-Err-clause-apart : goal.returns-in-Err-clause-apart
returns-in-Err-clause-apart c = subst (λ (l : List TracedRun). Apart l) (sym c.clear.ensures.items) apart_none
