use Rattle.std.proofs.Common.{◌≡◌, ◌++◌, length, string_bytes}
use Rattle.pt_human.specs.Names.{name_text}
use Rattle.pt_human.proofs.names.push_name.Given as goal

-- what is added with the rest of the name behind it is the name
abbrev pub invariant-loop-left : goal.invariant-loop-left
invariant-loop-left l = string_bytes l.text ++ name_text l.left ≡ string_bytes l.initial.text ++ name_text l.name

abbrev pub decreases-loop-left : goal.decreases-loop-left
decreases-loop-left l = length l.left
