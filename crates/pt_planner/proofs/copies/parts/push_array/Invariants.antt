use Rattle.std.proofs.Common.{◌≡◌, ◌≤◌, ◌+◌, ◌++◌, List, Option, length}
use Rattle.std.specs.Prelude.{vec_len, vec_capacity}
use Rattle.pt_apply.specs.Plans.{writes_of}
use Rattle.pt_gpt.specs.Copies.{IsEncoded}
use Rattle.pt_gpt.specs.declared.entry.Entry.{Entry}
use Rattle.pt_cases.specs.Writes.{array_writes}
use Rattle.pt_planner.proofs.copies.parts.push_array.Given as goal

abbrev pub invariant-loop-k : goal.invariant-loop-k
invariant-loop-k g l = record {
  so_far : (es : List (Option Entry)) → IsEncoded es l.array
      → writes_of l.writes.items ≡ writes_of l.fn.writes.items ++ array_writes g.row.B es l.at l.k;
  room : vec_len l.writes + length l.sectors ≤ vec_capacity l.writes + l.k;
}
