use Rattle.pt_planner.proofs.Reached.{last_reached, protects_reached}
use Rattle.pt_planner.proofs.copies.laws.last_writes_are_of_the_head.Goals as goal

pub returns : goal.returns
returns c = record {
  one = last_reached;
  not_yet = protects_reached;
}
