use Rattle.std.proofs.Common.{◌∷◌}
use Rattle.pt_answers.specs.Images.{TableOpened}
use Rattle.ptab.proofs.past.Past.table_opened.Given as goal

abbrev pub ghost-of : goal.ghost-of
ghost-of g a = TableOpened a._by.now.1.now a._by.now.2.now ∷ a._by.now.0.now.calls
