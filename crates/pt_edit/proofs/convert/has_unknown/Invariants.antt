use Rattle.std.proofs.Common.{◌≡◌, drop}
use Rattle.pt_edit.specs.Converted.{has_unknown}
use Rattle.pt_edit.proofs.convert.has_unknown.Given as goal

abbrev pub invariant-loop-partition : goal.invariant-loop-partition
invariant-loop-partition l = has_unknown (drop l.partition-index l.partitions) ≡ has_unknown l.partitions
