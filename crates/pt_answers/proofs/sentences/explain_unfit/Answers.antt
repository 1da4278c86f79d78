use Rattle.pt_answers.proofs.sentences.explain_unfit.Goals as goal

pub returns : goal.returns
returns g c = c.writeln.ensures.bytes
