use Rattle.std.proofs.Common.{◌≡◌, ◌+◌}
use Rattle.std.specs.Prelude.{vec_len, vec_capacity}
use Rattle.pt_gpt.proofs.Parts.{Pushed}
use Rattle.pt_gpt.proofs.entries.push_entries.Given as goal

abbrev pub invariant-loop-k : goal.invariant-loop-k
invariant-loop-k l = record {
  pushed : Pushed l.part l.fn.items.items l.items.items l.k;
  len : vec_len l.items ≡ vec_len l.fn.items + l.k;
  capacity : vec_capacity l.items ≡ vec_capacity l.fn.items;
}
