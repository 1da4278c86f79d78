use Rattle.std.proofs.Common.{refl}
use Rattle.pt_check.proofs.following.Followed.by_backup.Goals as goal

pub returns : goal.returns
returns g c = λ d follows. (refl, c.gives.ensures d follows c.if-not-gives.false)
