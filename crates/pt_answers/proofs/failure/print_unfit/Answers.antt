use Rattle.pt_answers.proofs.failure.print_unfit.Goals as goal

pub returns : goal.returns
returns g c = rw c.word_of.ensures at c.writeln.ensures.bytes
