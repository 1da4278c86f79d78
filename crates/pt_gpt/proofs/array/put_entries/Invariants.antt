use Rattle.std.proofs.Common.{◌≡◌, ◌*◌, length, take}
use Rattle.pt_gpt.specs.Copies.{entries_bytes}
use Rattle.pt_gpt.proofs.array.put_entries.Given as goal

abbrev pub invariant-loop-k : goal.invariant-loop-k
invariant-loop-k l = record {
  long : length l.bytes ≡ length l.fn.bytes;
  done : take (l.k * 128) l.bytes ≡ entries_bytes l.entries l.first l.k;
}
