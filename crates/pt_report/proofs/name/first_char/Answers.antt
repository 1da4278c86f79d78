use Rattle.std.proofs.Common.{◌≡◌, ◌∙◌, refl, ◌+◌, ◌-◌, ◌*◌, ap, sym, arith, inr, Some}
use Rattle.std.specs.Prelude.{slice_index}
use Rattle.std.specs.Char.Utf16.{lone_unit_char, surrogate_pair_char}
use Rattle.pt_report.proofs.Utf16.{lone_char, lone_first, not_true, pair_char, pair_first}
use Rattle.pt_report.proofs.name.first_char.Goals as goal

pub returns-then-is_pair-clause-first : goal.returns-then-is_pair-clause-first
returns-then-is_pair-clause-first c =
    let us = c.args.units.now in
    let pair = c.if-is_pair.ensures.0 refl in
    let code = 0x1_0000 + ((c.from.result - 0xD800) * 0x400 + (c.from-then-is_pair.result - 0xDC00)) in
    let same : surrogate_pair_char (slice_index us 0) (slice_index us 1) ≡ code =
    rw (c.from.ensures, c.from-then-is_pair.ensures) (omega arith) in
    let high = pair.high in
    let below = pair.below in
    let low = pair.low in
    let last = pair.last in
    let made = pair_char code c.from_u32.result c.from_u32.ensures.value (c.from_u32.ensures.succeeds (inr (omega arith, omega arith))) in
    pair_first us c.from_u32.result c.if-units-gt1.true pair (ap Some same ∙ made)

pub returns-clause-first : goal.returns-clause-first
returns-clause-first c =
    let us = c.args.units.now in
    let small = c.type_inv.units 0 in
    lone_first us c.from_u32-2.result c.requires
    (λ two pair. elim c.else-units-gt1.branch as (λ _. ⊥) [
      | goal.else-units-gt1-via-then-units-gt1+else-is_pair w ↦ not_true _ w.if-is_pair.false (w.is_pair.ensures.1 pair)
      | goal.else-units-gt1-via-else-units-gt1 w ↦ omega (arith, two, w.if-units-gt1.false)
    ])
    (ap lone_unit_char (sym c.from-2.ensures)
    ∙ lone_char _ _ (omega arith) c.from_u32-2.ensures.value c.from_u32-2.ensures.cases)
