use Rattle.std.proofs.Common.{◌≡◌, take, Some}
use Rattle.pt_members.specs.Members.{present, parts_in}
use Rattle.pt_layout.proofs.sound.groups.label_parts.Given as goal

abbrev pub invariant-loop-k : goal.invariant-loop-k
invariant-loop-k l = l.members.items ≡ present (take l.k (parts_in (Some l.label) l.slice))
