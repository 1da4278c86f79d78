use Rattle.pt_bsd.proofs.Terms.{no_label}
use Rattle.pt_recover.proofs.labels.label_of.Goals as goal

pub returns-in-Ok : goal.returns-in-Ok
returns-in-Ok g c = c.in-Ok.ensures.ok

pub returns-in-Err : goal.returns-in-Err
returns-in-Err g c = no_label c.in-Err.field-0 c.args.slice.first c.args.slice.len c.args.sector.now c.in-Err.ensures.err
