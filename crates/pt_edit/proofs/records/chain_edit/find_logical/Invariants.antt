use Rattle.std.proofs.Common.{◌≡◌, ◌<◌, ℕ, false}
use Rattle.pt_edit.specs.Chains.{number_at, is_numbered}
use Rattle.pt_edit.proofs.records.chain_edit.find_logical.Given as goal

abbrev pub invariant-loop-k : goal.invariant-loop-k
invariant-loop-k l = record {
  counted : l.next ≡ number_at l.chain l.k;
  none : (j : ℕ) → j < l.k → is_numbered l.chain l.number j ≡ false;
}
