use Rattle.pt_planner.proofs.Reached.{backup_first_reached, primary_first_reached, from_mbr_reached}
use Rattle.pt_planner.proofs.copies.laws.all_writes_are_reached.Goals as goal

pub returns : goal.returns
returns c = record {
  backup_first = backup_first_reached;
  primary_first = primary_first_reached;
  from_mbr = from_mbr_reached;
}
