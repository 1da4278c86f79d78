use Rattle.pt_cases.proofs.LabelPlaces.{places_apart_lem}
use Rattle.pt_cases.proofs.laws.places_apart.Goals as goal

pub returns : goal.returns
returns c = places_apart_lem
