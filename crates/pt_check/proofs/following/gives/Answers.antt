use Rattle.std.proofs.Common.{Option, subst}
use Rattle.std.specs.Prelude.{IfSome}
use Rattle.pt_gpt.specs.declared.table.Side.TheVariants.{Backup}
use Rattle.pt_follow.specs.Follow.{Follows}
use Rattle.pt_follow.specs.declared.copy.FollowedCopy.{FollowedCopy}
use Rattle.pt_check.proofs.following.gives.Goals as goal

pub returns-in-Gives : goal.returns-in-Gives
returns-in-Gives g c = λ d is yes.
    c.in-Gives.ensures d Backup
    (subst (λ (o : Option FollowedCopy). IfSome o (Follows g.row.B d Backup c.args.table.now)) c.in-Some.is is)
