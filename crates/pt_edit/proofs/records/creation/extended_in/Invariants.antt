use Rattle.std.proofs.Common.{◌≡◌, drop}
use Rattle.pt_edit.specs.MbrEdits.{extended_record}
use Rattle.pt_edit.proofs.records.creation.extended_in.Given as goal

abbrev pub invariant-loop-k : goal.invariant-loop-k
invariant-loop-k l = extended_record l.records ≡ extended_record (drop l.k l.records)
