use Rattle.std.proofs.Common.{◌+◌, ap, sym, ◌∙◌, arith, drop}
use Rattle.std.specs.Prelude.{slice_index}
use Rattle.std.proofs.lemmas.List.{drop_more, drop_all}
use Rattle.pt_drafts.proofs.Decimals.{after, one_more, stuck, ended, fits}
use Rattle.pt_drafts.proofs.digits.decimal.Goals as goal

pub returns-in_err-number : goal.returns-in_err-number
returns-in_err-number c =
    let text = c.args.digits.now in
    let k = c.loop-digit.digit-index in
    c.from_residual.ensures
    ∙ sym (c.loop-digit.invariant.rest
    ∙ ap (after c.loop-digit.number) (drop_more text k 0 c.loop-digit-test.true)
    ∙ stuck c.loop-digit.number (slice_index text k) (drop (k + 1) text) (sym c.in_err-number.ensures))

pub loop-digit-preserved : goal.loop-digit-preserved
loop-digit-preserved c =
    let text = c.args.digits.now in
    let k = c.loop-digit.digit-index in
    record {
      fits = fits c.loop-digit.number (slice_index text k) (drop (k + 1) text) c.in_ok-number.number (sym c.in_ok-number.ensures);
      rest = c.loop-digit.invariant.rest
          ∙ ap (after c.loop-digit.number) (drop_more text k 0 c.loop-digit-test.true)
          ∙ one_more c.loop-digit.number (slice_index text k) (drop (k + 1) text) c.in_ok-number.number (sym c.in_ok-number.ensures);
    }

pub returns : goal.returns
returns c =
    sym (c.loop-digit.invariant.rest
    ∙ ap (after c.loop-digit.number) (drop_all c.loop-digit.digit-index c.args.digits.now (omega (arith, c.loop-digit-test.false)))
    ∙ ended c.loop-digit.number c.loop-digit.invariant.fits)
