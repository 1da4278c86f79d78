use Rattle.std.proofs.Common.{◌≡◌, map, take, Some}
use Rattle.pt_guid.specs.declared.guid.Guid.{Guid}
use Rattle.pt_answers.specs.Wanted.{guid_in}
use Rattle.pt_answers.proofs.words.guids_in.Given as goal

abbrev pub invariant-loop-k : goal.invariant-loop-k
invariant-loop-k l = map guid_in (take l.k l.groups) ≡ map (λ (g : Guid). Some g) l.guids.items
