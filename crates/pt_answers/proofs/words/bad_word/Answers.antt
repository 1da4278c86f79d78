use Rattle.std.proofs.Common.{refl, inr}
use Rattle.pt_answers.proofs.words.bad_word.Goals as goal

pub returns-in-Ok : goal.returns-in-Ok
returns-in-Ok c = inr (c.in-Ok.text, refl, c.in-Ok.ensures.ok)
