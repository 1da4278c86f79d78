use Rattle.pt_bsd.proofs.Terms.{label_form}
use Rattle.pt_bsd.proofs.laws.fitting_label_has_form.Goals as goal

pub returns : goal.returns
returns c = label_form
