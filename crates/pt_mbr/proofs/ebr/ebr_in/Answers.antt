use Rattle.std.proofs.Common.{◌∙◌, refl, sym}
use Rattle.std.proofs.lemmas.Bool.{false≢true}
use Rattle.pt_mbr.specs.Chain.{boots, zeros, logical, link}
use Rattle.pt_mbr.proofs.ebr.ebr_in.Goals as goal

pub returns-then-not-has_boot_indicators-clause-err : goal.returns-then-not-has_boot_indicators-clause-err
returns-then-not-has_boot_indicators-clause-err c =
    (c.if-not-has_signature.ensures.0 refl, boots (λ held. false≢true (c.if-not-has_boot_indicators.ensures.1 held)))

pub returns-then-not-has_zeros-clause-err : goal.returns-then-not-has_zeros-clause-err
returns-then-not-has_zeros-clause-err c =
    (c.if-not-has_signature.ensures.0 refl, zeros (λ held. false≢true (c.if-not-has_zeros.ensures.1 held)))

pub returns-then-has_bad_logical-clause-err : goal.returns-then-has_bad_logical-clause-err
returns-then-has_bad_logical-clause-err c =
    (c.if-not-has_signature.ensures.0 refl, logical (c.has_bad_logical.ensures.0 c.if-has_bad_logical.true))

pub returns-then-has_bad_link-clause-err : goal.returns-then-has_bad_link-clause-err
returns-then-has_bad_link-clause-err c =
    (c.if-not-has_signature.ensures.0 refl, link (c.has_bad_link.ensures.0 c.if-has_bad_link.true))

pub returns-clause-ok : goal.returns-clause-ok
returns-clause-ok c = record {
  signature = c.if-not-has_signature.ensures.0 refl;
  boots = c.if-not-has_boot_indicators.ensures.0 refl;
  zeros = c.if-not-has_zeros.ensures.0 refl;
  logical_kind = λ bad. false≢true (sym c.if-has_bad_logical.false ∙ c.has_bad_logical.ensures.1 bad);
  link_kind = λ bad. false≢true (sym c.if-has_bad_link.false ∙ c.has_bad_link.ensures.1 bad);
  place = refl;
  logical = c.record_at.ensures;
  next = c.next_in.ensures;
}
