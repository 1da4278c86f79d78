use Rattle.pt_cases.proofs.Along.{label_fits_lem}
use Rattle.pt_cases.proofs.laws.labels_fit_places.Goals as goal

pub returns : goal.returns
returns c = label_fits_lem
