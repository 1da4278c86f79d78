use Rattle.std.proofs.Common.{◌∷◌}
use Rattle.pt_answers.specs.Images.{PlanOpened}
use Rattle.ptab.proofs.past.Past.plan_opened.Given as goal

abbrev pub ghost-of : goal.ghost-of
ghost-of g a = PlanOpened a._by.now.1.now a._by.now.2.now ∷ a._by.now.0.now.calls
