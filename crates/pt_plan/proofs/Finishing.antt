-- What a plan makes of a disk.
use Rattle.std.specs.Prelude.{ℕ, List}
use Rattle.std.proofs.Common.{refl}
use Rattle.pt_sector.specs.Sectors.{Sectors, Writes}
use Rattle.pt_check.specs.Answers.{OutcomeIs}
use Rattle.pt_check.specs.declared.answer.Outcome.TheVariants.{Yes}
use Rattle.pt_members.specs.declared.layout.Layout.{Layout}
use Rattle.pt_plan.specs.Layouts.{LeavesLayout}

pub after_yes : (b : ℕ) (d : Sectors) (phases : List Writes) (switch : ℕ) (o : Layout) → OutcomeIs b d phases (Yes switch o)
    → LeavesLayout b d phases o
after_yes b d phases switch o is =
    record { switch = switch; yes = is.answers; safe = is.promises; denotes = is.layout o refl }
