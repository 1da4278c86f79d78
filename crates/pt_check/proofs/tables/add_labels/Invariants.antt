use Rattle.std.proofs.Common.{take}
use Rattle.pt_members.specs.Members.{IsPlace}
use Rattle.pt_recover.specs.Spans.{Adds}
use Rattle.pt_check.proofs.tables.add_labels.Given as goal

abbrev pub invariant-loop-k : goal.invariant-loop-k
invariant-loop-k l = Adds l.initial.tables l.tables (IsPlace (take l.k l.slices))
