use Rattle.pt_bsd.proofs.Terms.{label_count, label_counted, label_fits}
use Rattle.pt_bsd.proofs.laws.read_label_fits.Goals as goal

pub returns : goal.returns
returns c = λ l first len bytes is. (label_count l first len bytes is, label_counted l first len bytes is, label_fits l first len bytes is)
