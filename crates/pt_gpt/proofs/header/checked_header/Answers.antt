use Rattle.std.proofs.Common.{◌≤◌, ◌∙◌, refl, sym, length}
use Rattle.std.proofs.lemmas.Bool.{false≢true}
use Rattle.pt_gpt.specs.Copies.{HasCrc, HasSize}
use Rattle.pt_gpt.proofs.header.checked_header.Goals as goal

pub has_crc-requires-clause-high : goal.has_crc-requires-clause-high
has_crc-requires-clause-high c =
    let within : c.u32_at-size.result ≤ length c.args.bytes.now = rw c.requires.whole c.if-size-sector_size.false in
    rw c.u32_at-size.ensures at within

pub returns-then-u32_at-ne-REVISION-clause-err : goal.returns-then-u32_at-ne-REVISION-clause-err
returns-then-u32_at-ne-REVISION-clause-err c =
    (c.if-not-has_signature.ensures.0 refl, λ e. c.if-u32_at-ne-REVISION.true (c.u32_at.ensures ∙ e))

pub returns-then-not-has_crc-clause-err : goal.returns-then-not-has_crc-clause-err
returns-then-not-has_crc-clause-err c =
    let size : HasSize c.args.sector_size c.args.bytes.now =
    (rw c.u32_at-size.ensures at c.if-size-lt-HEADER_SIZE.false, rw c.u32_at-size.ensures at c.if-size-sector_size.false) in
    let other : HasCrc c.args.bytes.now → ⊥ = λ sum. false≢true (c.if-not-has_crc.ensures.1 sum) in
    (c.if-not-has_signature.ensures.0 refl, sym c.u32_at.ensures ∙ c.if-u32_at-ne-REVISION.false, size, other)

pub returns-clause-ok : goal.returns-clause-ok
returns-clause-ok c = record {
  signature = c.if-not-has_signature.ensures.0 refl;
  revision = sym c.u32_at.ensures ∙ c.if-u32_at-ne-REVISION.false;
  size = (rw c.u32_at-size.ensures at c.if-size-lt-HEADER_SIZE.false, rw c.u32_at-size.ensures at c.if-size-sector_size.false);
  crc = c.if-not-has_crc.ensures.0 refl;
  fields = c.header_in.ensures;
}
