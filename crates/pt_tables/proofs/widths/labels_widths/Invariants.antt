use Rattle.std.proofs.Common.{◌<◌, ℕ, length, get_or}
use Rattle.pt_members.specs.declared.layout.Labelled.{Labelled}
use Rattle.pt_tables.specs.Shown.{LabelWidths}
use Rattle.pt_tables.proofs.widths.labels_widths.Given as goal

abbrev pub invariant-loop-k : goal.invariant-loop-k
invariant-loop-k l = (j : ℕ) (z : Labelled) → j < l.k → j < length l.labels → LabelWidths (get_or l.labels j z).label
