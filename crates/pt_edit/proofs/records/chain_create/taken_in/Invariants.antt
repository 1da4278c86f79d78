use Rattle.std.proofs.Common.{◌≡◌, ◌++◌, take}
use Rattle.std.specs.Prelude.{flat_map}
use Rattle.pt_members.specs.Members.{logicals_as}
use Rattle.pt_edit.specs.Space.{taken_by}
use Rattle.pt_edit.specs.Chains.{own_sector}
use Rattle.pt_edit.proofs.records.chain_create.taken_in.Given as goal

abbrev pub invariant-loop-ebr : goal.invariant-loop-ebr
invariant-loop-ebr l = l.taken.items ≡ taken_by (logicals_as 512 5 l.chain) ++ flat_map own_sector (take l.ebr-index l.chain)
