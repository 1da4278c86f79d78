use Rattle.std.proofs.Common.{◌≡◌}
use Rattle.pt_edit.specs.SliceLabels.{raised_as}
use Rattle.pt_edit.proofs.Changed.{changed_to}
use Rattle.pt_edit.proofs.labels.lists.raise_labels.Given as goal

abbrev pub invariant-loop-k : goal.invariant-loop-k
invariant-loop-k l = l.items.items ≡ changed_to (raised_as l.number) l.k l.initial.items.items
