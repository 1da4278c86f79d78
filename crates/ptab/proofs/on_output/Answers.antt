use Rattle.std.proofs.Common.{inr}
use Rattle.ptab.proofs.on_output.Goals as goal

pub returns-in-Ok : goal.returns-in-Ok
returns-in-Ok c = inr (_, _, _, _, _, _, rw (c.as_slice.ensures.value, c.in_ok-texts.ensures.texts) at c.run-ran.ensures.runs)
