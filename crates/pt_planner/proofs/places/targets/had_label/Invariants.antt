use Rattle.std.specs.List.{AllWithin}
use Rattle.pt_planner.proofs.Pieces.{NotHad}
use Rattle.pt_planner.proofs.places.targets.had_label.Given as goal

abbrev pub invariant-loop-k : goal.invariant-loop-k
invariant-loop-k g l = AllWithin (NotHad l.slice.first l.bytes) l.old 0 l.k
