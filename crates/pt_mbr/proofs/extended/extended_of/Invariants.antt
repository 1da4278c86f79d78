use Rattle.std.specs.Prelude.{◌≡◌, ◌++◌, option_to_list, drop}
use Rattle.pt_mbr.specs.Records.{extended_of}
use Rattle.pt_mbr.proofs.extended.extended_of.Given as goal

abbrev pub invariant-loop-k : goal.invariant-loop-k
invariant-loop-k l = extended_of l.records ≡ option_to_list l.found ++ extended_of (drop l.k l.records)
