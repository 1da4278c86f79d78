use Rattle.std.proofs.Common.{◌≡◌, ◌++◌, map, take}
use Rattle.pt_edit.specs.Free.{block_of}
use Rattle.pt_edit.proofs.free.push_runs.Given as goal

abbrev pub invariant-loop-run : goal.invariant-loop-run
invariant-loop-run l = l.list.items ≡ l.fn.list.items ++ map (block_of l.inside) (take l.run-index l.runs)
