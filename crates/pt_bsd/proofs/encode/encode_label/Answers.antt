use Rattle.pt_bsd.proofs.Terms.{label_counted, label_fits}
use Rattle.pt_bsd.proofs.encode.encode_label.Goals as goal

pub returns-clause-again : goal.returns-clause-again
returns-clause-again g c =
    λ first len bytes is. c.write_label.ensures.label (label_counted c.args.label.now first len bytes is) first len
    (label_fits c.args.label.now first len bytes is)
