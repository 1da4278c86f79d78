use Rattle.std.proofs.Common.{◌≡◌, ◌+◌, take}
use Rattle.pt_members.specs.Members.{logicals_as, used_before}
use Rattle.pt_edit.specs.Space.{taken_by}
use Rattle.pt_edit.proofs.space.taken.taken_by_logicals.Given as goal

abbrev pub invariant-loop-k : goal.invariant-loop-k
invariant-loop-k l = record {
  taken : l.taken.items ≡ taken_by (take l.k (logicals_as 512 5 l.chain));
  number : l.number ≡ 5 + used_before l.k l.chain;
}
