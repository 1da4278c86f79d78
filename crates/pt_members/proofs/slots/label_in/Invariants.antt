use Rattle.std.proofs.Common.{◌≡◌, drop}
use Rattle.pt_members.specs.Members.{label_of}
use Rattle.pt_members.proofs.slots.label_in.Given as goal

abbrev pub invariant-loop-k : goal.invariant-loop-k
invariant-loop-k l = label_of l.labels l.number ≡ label_of (drop l.k l.labels) l.number
