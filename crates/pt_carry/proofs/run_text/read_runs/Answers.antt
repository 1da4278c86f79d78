use Rattle.std.proofs.Common.{◌≡◌, ◌∙◌, ◌+◌, ℕ, List, Err, Result, ap, arith, length, sym}
use Rattle.std.specs.Prelude.{Vec}
use Rattle.std.specs.declared.alloc.Global.{Global}
use Rattle.pt_sector.specs.declared.address.Extent.{Extent}
use Rattle.pt_apply.proofs.Growing.{shorter, utf8_after}
use Rattle.pt_carry.proofs.RunLines.{begins, ends, pushed, stops, takes, unended, whole}
use Rattle.pt_carry.proofs.run_text.read_runs.Goals as goal

counted : (runs : Vec Extent Global) → ◌≡◌ {A = Result (List (ℕ × ℕ)) ℕ} (Err (length runs.items + 1)) (Err (runs.len + 1))
counted runs =
    let same : length runs.items ≡ runs.len = omega (arith, runs.ok.0) in
    ap (λ (n : ℕ). Err (n + 1)) same

pub loop-line-init : goal.loop-line-init
loop-line-init c = (rw c.new-runs.ensures.items (begins c.args.text.now), c.utf8.text)

pub returns-in_default-read_run-clause-err : goal.returns-in_default-read_run-clause-err
returns-in_default-read_run-clause-err c =
    let stopped = stops c.args.text.now c.loop-line.rest.now c.in-Some.line c.in-Some.after c.loop-line.runs.items
    c.in-Some.ensures.cases c.in_default-read_run.ensures c.loop-line.invariant.0 in
    rw c.len.ensures (stopped ∙ counted c.loop-line.runs)

pub loop-line-smaller : goal.loop-line-smaller
loop-line-smaller c =
    shorter c.loop-line.rest.now c.in-Some.line.now c.in-Some.after.now
    (whole c.loop-line.rest.now c.in-Some.line c.in-Some.after c.in-Some.ensures.cases)

pub loop-line-preserved : goal.loop-line-preserved
loop-line-preserved c = (
  takes c.args.text.now c.loop-line.rest.now c.in-Some.line c.in-Some.after c.loop-line.runs.items c.push.new.self.items
      c.in-Some-read_run.run' c.in-Some.ensures.cases c.in-Some-read_run.ensures
      (pushed _ _ _ _ _ c.is_err.ensures.negation c.if-is_err.false c.push.ensures.items) c.loop-line.invariant.0,
  utf8_after c.loop-line.rest.now c.in-Some.line.now c.in-Some.after.now
      (whole c.loop-line.rest.now c.in-Some.line c.in-Some.after c.in-Some.ensures.cases) c.loop-line.invariant.1,
)

pub returns-then-not-is_empty-clause-err : goal.returns-then-not-is_empty-clause-err
returns-then-not-is_empty-clause-err c =
    let stopped = unended c.args.text.now c.loop-line.rest.now c.loop-line.runs.items c.in_default.ensures.cases c.loop-line.invariant.0
    (sym c.is_empty.ensures ∙ c.if-not-is_empty.true) in
    rw c.len-then-not-is_empty.ensures (stopped ∙ counted c.loop-line.runs)

pub returns-clause-ok : goal.returns-clause-ok
returns-clause-ok c =
    ends c.args.text.now c.loop-line.rest.now c.loop-line.runs.items c.in_default.ensures.cases c.loop-line.invariant.0
    (sym c.is_empty.ensures ∙ c.if-not-is_empty.false)
