use Rattle.std.proofs.Common.{◌<◌, ℕ, length, get_or, IfSome}
use Rattle.pt_mbr.specs.declared.ebr.Ebr.{Ebr}
use Rattle.pt_tables.specs.Shown.{RecordWidths}
use Rattle.pt_tables.proofs.widths.chain_widths.Given as goal

abbrev pub invariant-loop-k : goal.invariant-loop-k
invariant-loop-k l = (j : ℕ) (z : Ebr) → j < l.k → j < length l.chain → IfSome (get_or l.chain j z).logical RecordWidths
