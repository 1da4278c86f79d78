use Rattle.std.proofs.Common.{take}
use Rattle.pt_answers.specs.Wanted.{AreEdits}
use Rattle.pt_answers.proofs.words.edits_of.Given as goal

abbrev pub invariant-loop-k : goal.invariant-loop-k
invariant-loop-k l = AreEdits (take l.k l.words) l.edits.items
