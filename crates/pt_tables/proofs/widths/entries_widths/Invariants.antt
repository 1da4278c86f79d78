use Rattle.std.proofs.Common.{◌<◌, ℕ, length, get_or, IfSome, Option}
use Rattle.pt_gpt.specs.declared.entry.Entry.{Entry}
use Rattle.pt_tables.specs.Shown.{EntryWidths}
use Rattle.pt_tables.proofs.widths.entries_widths.Given as goal

abbrev pub invariant-loop-k : goal.invariant-loop-k
invariant-loop-k l = (j : ℕ) (z : Option Entry) → j < l.k → j < length l.entries → IfSome (get_or l.entries j z) EntryWidths
