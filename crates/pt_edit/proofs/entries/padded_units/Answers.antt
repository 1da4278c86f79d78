-- Each unit that comes is the next of the name's, and after the last one all have come.
use Rattle.std.proofs.Common.{◌<◌, length, ap, sym, ◌∙◌, arith, length-append}
use Rattle.std.specs.Str.Iter.{encode_utf16_rest, encode_utf16_pending}
use Rattle.pt_edit.specs.Entries.{padded}
use Rattle.pt_edit.proofs.Units.{padded_push, so_far_more, so_far_end, so_far_long}
use Rattle.pt_edit.proofs.entries.padded_units.Goals as goal

pub returns-then-count-eq-NAME_UNITS-clause-none : goal.returns-then-count-eq-NAME_UNITS-clause-none
returns-then-count-eq-NAME_UNITS-clause-none c =
    let it = c.loop-unit.unit-iterator in
    let next = c.next.new.self in
    let h = so_far_more _ _ _ _ c.in-Some.unit (encode_utf16_pending next) (encode_utf16_rest next) c.loop-unit.invariant.text
    c.loop-unit.invariant.so_far c.in-Some.ensures.steps in
    so_far_long _ _ (encode_utf16_pending it) (encode_utf16_rest it) _ _ _ h
    (sym c.loop-unit.invariant.count ∙ c.if-count-eq-NAME_UNITS.true)

pub loop-unit-preserved : goal.loop-unit-preserved
loop-unit-preserved c =
    let next = c.next.new.self in
    let h = so_far_more _ _ _ _ c.in-Some.unit (encode_utf16_pending next) (encode_utf16_rest next) c.loop-unit.invariant.text
    c.loop-unit.invariant.so_far c.in-Some.ensures.steps in
    let less : length c.loop-unit.yielded < 36 = omega arith in
    record {
      can_go_on = tt;
      ends = tt;
      text = h.0;
      count = simp length-append (omega arith);
      most = omega arith;
      so_far = h.1;
      units = rw (c.loop-unit.invariant.units, c.loop-unit.invariant.count) (padded_push c.loop-unit.yielded c.in-Some.unit less);
    }

pub returns-clause-short : goal.returns-clause-short
returns-clause-short c =
    let whole = so_far_end _ _ _ _ c.loop-unit.invariant.so_far c.in-None.ensures.steps.0 c.in-None.ensures.steps.1 in
    rw whole (omega arith)

pub returns-clause-some : goal.returns-clause-some
returns-clause-some c =
    let whole = so_far_end _ _ _ _ c.loop-unit.invariant.so_far c.in-None.ensures.steps.0 c.in-None.ensures.steps.1 in
    c.loop-unit.invariant.units ∙ ap padded (sym whole)
