use Rattle.std.proofs.Common.{subst}
use Rattle.pt_tables.specs.Shown.{LabelsWidths}
use Rattle.pt_tables.proofs.widths.field_widths.Goals as goal

pub returns : goal.returns
returns c = record { body = c.body_widths.ensures; labels = subst LabelsWidths c.as_slice.ensures c.labels_widths.ensures }
