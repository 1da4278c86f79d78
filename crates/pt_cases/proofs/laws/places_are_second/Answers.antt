use Rattle.pt_cases.proofs.LabelPlaces.{places_are_second_lem}
use Rattle.pt_cases.proofs.laws.places_are_second.Goals as goal

pub returns : goal.returns
returns c = places_are_second_lem
