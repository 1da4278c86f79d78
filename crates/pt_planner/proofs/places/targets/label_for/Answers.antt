use Rattle.pt_bsd.proofs.Terms.{label_none}
use Rattle.pt_planner.proofs.places.targets.label_for.Goals as goal

pub returns-in-Err : goal.returns-in-Err
returns-in-Err g c = λ m has. label_none c.in-Err.field-0 m c.args.old.first c.args.old.len c.args.bytes.now c.in-Err.ensures.err has.1
