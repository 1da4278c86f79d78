use Rattle.std.proofs.Common.{refl, rules}
use Rattle.pt_bsd.proofs.decode.checked_label.Goals as goal

pub returns-then-not-has_raw-clause-err : goal.returns-then-not-has_raw-clause-err
returns-then-not-has_raw-clause-err c = (
  c.if-not-has_magics.ensures.0 refl,
  c.if-not-has_count.ensures.0 refl,
  c.if-not-has_sum.ensures.0 refl,
  c.if-not-has_sector_size.ensures.0 refl,
  search rules,
)

pub returns-clause-ok : goal.returns-clause-ok
returns-clause-ok c = record {
  magics = c.if-not-has_magics.ensures.0 refl;
  count = c.if-not-has_count.ensures.0 refl;
  sum = c.if-not-has_sum.ensures.0 refl;
  sector_size = c.if-not-has_sector_size.ensures.0 refl;
  raw = c.if-not-has_raw.ensures.0 refl;
  fields = c.label_in.ensures.fields;
  entries = c.label_in.ensures.entries;
}
