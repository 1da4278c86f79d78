use Rattle.std.proofs.Common.{◌∷◌}
use Rattle.pt_answers.specs.Images.{Closed}
use Rattle.ptab.proofs.past.Past.closed.Given as goal

abbrev pub ghost-of : goal.ghost-of
ghost-of g a = Closed a._by.now.1.now ∷ a._by.now.0.now.calls
