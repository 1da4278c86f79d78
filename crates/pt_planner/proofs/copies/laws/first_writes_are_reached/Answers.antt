use Rattle.pt_planner.proofs.Reached.{labels_and_backup_reached, closing_reached, copies_and_labels_reached}
use Rattle.pt_planner.proofs.copies.laws.first_writes_are_reached.Goals as goal

pub returns : goal.returns
returns c = record {
  backup_first = labels_and_backup_reached;
  primary_first = closing_reached;
  from_mbr = copies_and_labels_reached;
}
