use Rattle.std.proofs.Common.{◌<◌, ℕ, length, get_or, IfSome, Option}
use Rattle.pt_mbr.specs.declared.record.Record.{Record}
use Rattle.pt_tables.specs.Shown.{RecordWidths}
use Rattle.pt_tables.proofs.widths.records_widths.Given as goal

abbrev pub invariant-loop-k : goal.invariant-loop-k
invariant-loop-k l = (j : ℕ) (z : Option Record) → j < l.k → j < length l.records → IfSome (get_or l.records j z) RecordWidths
