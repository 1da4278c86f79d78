use Rattle.std.proofs.Common.{◌≡◌, take}
use Rattle.pt_set.specs.Records.{stated_records}
use Rattle.pt_set.proofs.records.stated_records.Given as goal

abbrev pub invariant-loop-k : goal.invariant-loop-k
invariant-loop-k g l = l.runs.items ≡ stated_records g.row.B (take l.k l.parts)
