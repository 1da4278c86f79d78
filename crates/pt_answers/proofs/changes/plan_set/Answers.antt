use Rattle.std.proofs.Common.{refl, inl}
use Rattle.pt_plan.specs.declared.error.CommitError.TheVariants.{Memory}
use Rattle.pt_set.specs.declared.error.SetError.TheVariants.{Disk}
use Rattle.pt_answers.proofs.Texts.{text_told}
use Rattle.pt_answers.proofs.changes.plan_set.Goals as goal

pub returns : goal.returns
returns g c =
    let plan = c.in_ok-plan.ensures in
    record {
      plans = (
        plan.same,
        text_told g.row.B _ _ _ (Disk Memory) _ _ (plan.blames, plan.planned) (plan.blames, λ tells. inl tt) refl c.text_of_plan.ensures,
      );
    }
