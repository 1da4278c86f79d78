use Rattle.std.proofs.Common.{◌≡◌, take}
use Rattle.clap.specs.Walk.{texts as slice_texts}
use Rattle.pt_answers.proofs.words.texts_of.Given as goal

abbrev pub invariant-loop-k : goal.invariant-loop-k
invariant-loop-k l = slice_texts l.texts.items ≡ take l.k l.words
