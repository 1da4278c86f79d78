use Rattle.std.proofs.Common.{◌≡◌}
use Rattle.pt_edit.specs.SliceLabels.{lowered_as}
use Rattle.pt_edit.proofs.Changed.{changed_to}
use Rattle.pt_edit.proofs.labels.lists.lower_labels.Given as goal

abbrev pub invariant-loop-k : goal.invariant-loop-k
invariant-loop-k l = l.items.items ≡ changed_to (lowered_as l.number) l.k l.initial.items.items
