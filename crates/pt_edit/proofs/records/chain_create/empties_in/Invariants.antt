use Rattle.std.proofs.Common.{◌≡◌, take}
use Rattle.std.specs.Prelude.{flat_map}
use Rattle.pt_edit.specs.Chains.{empty_sector}
use Rattle.pt_edit.proofs.records.chain_create.empties_in.Given as goal

abbrev pub invariant-loop-ebr : goal.invariant-loop-ebr
invariant-loop-ebr l = l.empties.items ≡ flat_map empty_sector (take l.ebr-index l.chain)
