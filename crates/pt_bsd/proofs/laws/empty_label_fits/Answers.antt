use Rattle.pt_bsd.proofs.Terms.{empty_counted, empty_fits}
use Rattle.pt_bsd.proofs.laws.empty_label_fits.Goals as goal

pub returns : goal.returns
returns c = λ n first. (empty_counted n, empty_fits n first)
