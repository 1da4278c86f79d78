use Rattle.std.proofs.Common.{refl}
use Rattle.pt_plan.specs.declared.error.CommitError.TheVariants.{Memory}
use Rattle.pt_plan.specs.declared.like_error.LikeError.TheVariants.{Disk}
use Rattle.pt_answers.proofs.Texts.{text_told}
use Rattle.pt_answers.proofs.changes.plan_adopt.Goals as goal

pub returns : goal.returns
returns g c =
    let plan = c.in_ok-plan.ensures in
    record {
      plans = (
        plan.same,
        plan.same_other,
        text_told g.row.B _ _ _ (Disk Memory) _ _ (plan.blames, plan.blames_other, plan.planned) (
          plan.blames,
          plan.blames_other,
          λ told told_other.
              ((plan.planned told told_other).wanted, (plan.planned told told_other).denotes, tt),
        )
            refl c.text_of_plan.ensures,
      );
    }
