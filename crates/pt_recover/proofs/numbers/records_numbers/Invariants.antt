use Rattle.std.proofs.Common.{◌<◌, ℕ, length, get_or, Option}
use Rattle.pt_recover.specs.Denotes.{SlotNumbers}
use Rattle.pt_mbr.specs.declared.record.Record.{Record}
use Rattle.pt_recover.proofs.numbers.records_numbers.Given as goal

abbrev pub invariant-loop-k : goal.invariant-loop-k
invariant-loop-k l = (j : ℕ) (z : Option Record) → j < l.k → j < length l.records → SlotNumbers (get_or l.records j z)
