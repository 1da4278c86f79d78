use Rattle.std.proofs.Common.{◌≡◌, ◌<◌, ◌^◌, drop}
use Rattle.pt_drafts.specs.Digits.{decimal_of}
use Rattle.pt_drafts.proofs.Decimals.{after}
use Rattle.pt_drafts.proofs.digits.decimal.Given as goal

abbrev pub invariant-loop-digit : goal.invariant-loop-digit
invariant-loop-digit l = record {
  fits : l.number < 2 ^ 64;
  rest : decimal_of l.digits ≡ after l.number (drop l.digit-index l.digits);
}
