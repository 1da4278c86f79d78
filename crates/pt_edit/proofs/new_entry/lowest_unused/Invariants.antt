use Rattle.std.proofs.Common.{◌≡◌, ◌<◌, ◌+◌, ℕ, false}
use Rattle.pt_edit.specs.Entries.{is_unused}
use Rattle.pt_edit.proofs.new_entry.lowest_unused.Given as goal

abbrev pub invariant-loop-index : goal.invariant-loop-index
invariant-loop-index l = (j : ℕ) → j < l.index → is_unused l.table.entries (j + 1) ≡ false
