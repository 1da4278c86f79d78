use Rattle.std.specs.List.{AllAdjacentBelow}
use Rattle.std.proofs.Common.{◌≤◌}
use Rattle.pt_members.specs.declared.layout.Labelled.{Labelled}
use Rattle.pt_members.proofs.layout.numbers_ascend.Given as goal

abbrev pub invariant-loop-k : goal.invariant-loop-k
invariant-loop-k l = AllAdjacentBelow (λ (x : Labelled) (y : Labelled). x.number ≤ y.number) l.labels l.k
