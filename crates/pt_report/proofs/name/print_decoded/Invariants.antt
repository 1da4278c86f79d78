use Rattle.std.proofs.Common.{ℕ, List, Option, length}
use Rattle.std.specs.Io.KnownBytes.{Appends}
use Rattle.pt_report.specs.Shown.{name_text}
use Rattle.pt_report.proofs.name.print_decoded.Given as goal

-- what is printed with the rest of the name behind it is the name
abbrev pub invariant-loop-left : goal.invariant-loop-left
invariant-loop-left g l =
    (end : Option (List ℕ)) → Appends (g.O.Write.contents l.out) end (name_text l.left)
    → Appends (g.O.Write.contents l.initial.out) end (name_text l.units)

abbrev pub decreases-loop-left : goal.decreases-loop-left
decreases-loop-left g l = length l.left
