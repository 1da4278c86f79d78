use Rattle.std.proofs.Common.{refl}
use Rattle.pt_follow.proofs.head.head_in.Goals as goal

pub returns : goal.returns
returns g c = (c.in-Ok.ensures.ok, c.if-not-is_placed.ensures.0 refl)
