use Rattle.std.proofs.Common.{◌∷◌}
use Rattle.pt_answers.specs.Images.{Opened}
use Rattle.ptab.proofs.past.Past.opened.Given as goal

abbrev pub ghost-of : goal.ghost-of
ghost-of g a = Opened a._by.now.1.now a._by.now.2 a._by.now.3 a._by.now.4.now ∷ a._by.now.0.now.calls
