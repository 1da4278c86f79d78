use Rattle.pt_gpt.specs.declared.table.Side.TheVariants.{Primary}
use Rattle.pt_check.proofs.following.Followed.has_lost.Goals as goal

pub returns-in-LostHead : goal.returns-in-LostHead
returns-in-LostHead g c = λ d follows yes. (c.in-LostHead.ensures d Primary follows).0

pub returns-in-LostArray : goal.returns-in-LostArray
returns-in-LostArray g c = λ d follows yes. (c.in-LostArray.ensures d Primary follows).0
