use Rattle.std.proofs.Common.{◌≡◌}
use Rattle.pt_edit.specs.SliceLabels.{relabelled_as}
use Rattle.pt_edit.proofs.Changed.{changed_to}
use Rattle.pt_edit.proofs.labels.lists.put_label.Given as goal

abbrev pub invariant-loop-k : goal.invariant-loop-k
invariant-loop-k l = l.items.items ≡ changed_to (relabelled_as l.number l.label) l.k l.initial.items.items
