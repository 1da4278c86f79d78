use Rattle.std.proofs.Common.{◌≡◌, ◌≤◌, ◌++◌, length, map, drop}
use Rattle.pt_planner.specs.inner.Places.{Fit, slice_of, labels_of}
use Rattle.pt_planner.proofs.places.place.spots.Given as goal

abbrev pub invariant-loop-k : goal.invariant-loop-k
invariant-loop-k l = record {
  within : l.taken ≤ length l.labels;
  slices : map slice_of l.spots.items ++ drop l.k l.slices ≡ l.slices;
  labels : labels_of l.spots.items ++ drop l.taken l.labels ≡ l.labels;
  fit : Fit l.slices l.labels → Fit (drop l.k l.slices) (drop l.taken l.labels);
}
