use Rattle.std.proofs.Common.{◌<◌, ℕ, List, [], length, sym, ◌∙◌, subst, lit<, arith, inl, inr}
use Rattle.std.proofs.lemmas.Result.{err_from_is_err_and}
use Rattle.std.proofs.lemmas.Str.Pattern.{split_parts}
use Rattle.pt_sector.specs.Sectors.{Writes}
use Rattle.pt_apply.specs.inner.PlanTexts.{phases_read, last_read}
use Rattle.pt_apply.proofs.Cuts.{Parts, when_true, when_false}
use Rattle.pt_apply.proofs.Growing.{IsReading, reading_begins, reading_more, reading_bad, reading_ends, reading_done, reading_fits}
use Rattle.pt_apply.proofs.Growing.{reading_unended, reading_unflushed, has_none, has_writes, shorter, utf8_after}
use Rattle.pt_apply.proofs.Texts.{phases_some}
use Rattle.pt_apply.proofs.read.read_plan.Goals as goal

pub overflow_add-number : goal.overflow_add-number
overflow_add-number g c =
    let fits =
    reading_fits g.row.B c.args.text.now c.loop-line.rest.now c.loop-line.number (phases_read c.loop-line.partial)
    (last_read c.loop-line.partial) c.loop-line.invariant.0 in
    let small = c.well_formed.1.0.1 in
    omega (arith, fits, small)

pub loop-line-init : goal.loop-line-init
loop-line-init g c =
    (rw (c.new.ensures.items, c.new-2.ensures.items) (reading_begins g.row.B c.args.text.now), c.utf8.text)

pub loop-line-smaller : goal.loop-line-smaller
loop-line-smaller g c =
    let cut =
    subst (Parts 10 c.loop-line.rest.now) c.in-Some.is
    (split_parts 10 c.loop-line.rest.now c.split_once.result c.split_once.ensures.cases (lit< tt)) in
    shorter c.loop-line.rest.now c.in-Some.line.now c.in-Some.after.now cut.0

pub loop-line-preserved : goal.loop-line-preserved
loop-line-preserved g c =
    let text = c.args.text.now in
    let n = c.loop-line.number in
    let ps = phases_read c.loop-line.partial in
    let last = last_read c.loop-line.partial in
    let cut =
    subst (Parts 10 c.loop-line.rest.now) c.in-Some.is
    (split_parts 10 c.loop-line.rest.now c.split_once.result c.split_once.ensures.cases (lit< tt)) in
    let now = subst (λ (t : List ℕ). IsReading g.row.B text t n ps last) cut.0 c.loop-line.invariant.0 in (
      reading_more g.row.B text c.in-Some.line.now c.in-Some.after.now n ps last (phases_read c.take_line.new.partial)
          (last_read c.take_line.new.partial) now
          (when_true c.in_ok-take_line.field-0 _ _ c.if-not-branch.false c.in_ok-take_line.ensures),
      utf8_after c.loop-line.rest.now c.in-Some.line.now c.in-Some.after.now cut.0 c.loop-line.invariant.1,
    )

pub returns-in_err-take_line : goal.returns-in_err-take_line
returns-in_err-take_line g c =
    let p = err_from_is_err_and c.from_residual.result c.from_residual.ensures.1 in
    record { ok = rw p.1 tt; phases = rw p.1 tt; err = rw p.1 (inl p.2) }

pub returns-then-not-branch : goal.returns-then-not-branch
returns-then-not-branch g c =
    let text = c.args.text.now in
    let n = c.loop-line.number in
    let ps = phases_read c.loop-line.partial in
    let last = last_read c.loop-line.partial in
    let cut =
    subst (Parts 10 c.loop-line.rest.now) c.in-Some.is
    (split_parts 10 c.loop-line.rest.now c.split_once.result c.split_once.ensures.cases (lit< tt)) in
    let now = subst (λ (t : List ℕ). IsReading g.row.B text t n ps last) cut.0 c.loop-line.invariant.0 in
    record {
      ok = tt;
      phases = tt;
      err = inr (reading_bad g.row.B text c.in-Some.line.now c.in-Some.after.now n ps last now cut.1
          (when_false c.in_ok-take_line.field-0 _ _ c.if-not-branch.true c.in_ok-take_line.ensures));
    }

pub returns-then-not-is_empty : goal.returns-then-not-is_empty
returns-then-not-is_empty g c =
    let rest = c.loop-line.rest.now in
    let none = subst (Parts 10 rest) c.in_default.is (split_parts 10 rest c.split_once.result c.split_once.ensures.cases (lit< tt)) in
    let more : 0 < length rest = let e = c.if-not-is_empty.ensures in grind (arith) in
    record {
      ok = tt;
      phases = tt;
      err = inr (reading_unended g.row.B c.args.text.now rest c.loop-line.number (phases_read c.loop-line.partial)
          (last_read c.loop-line.partial) c.loop-line.invariant.0 none more);
    }

pub returns-then-not-is_empty-2 : goal.returns-then-not-is_empty-2
returns-then-not-is_empty-2 g c =
    let partial = c.loop-line.partial in
    record {
      ok = tt;
      phases = tt;
      err = inr (reading_unflushed g.row.B c.args.text.now c.loop-line.number (phases_read partial) (last_read partial)
          (reading_ends g.row.B c.args.text.now c.loop-line.rest.now c.loop-line.number (phases_read partial) (last_read partial)
          c.loop-line.invariant.0 (sym c.is_empty.ensures ∙ c.if-not-is_empty.false))
          (has_writes partial.last (sym c.is_empty-2.ensures ∙ c.if-not-is_empty-2.true)));
    }

pub returns : goal.returns
returns g c =
    let partial = c.loop-line.partial in
    let now =
    reading_ends g.row.B c.args.text.now c.loop-line.rest.now c.loop-line.number (phases_read partial) (last_read partial)
    c.loop-line.invariant.0 (sym c.is_empty.ensures ∙ c.if-not-is_empty.false) in
    record {
      ok = reading_done g.row.B c.args.text.now c.loop-line.number (phases_read partial)
          (subst (λ (l : Writes). IsReading g.row.B c.args.text.now [] c.loop-line.number (phases_read partial) l)
          (has_none partial.last (sym c.is_empty-2.ensures ∙ c.if-not-is_empty-2.false)) now);
      phases = phases_some partial.phases.items c.loop-line.invariant.0.begins.some;
      err = tt;
    }
