use Rattle.pt_recover.proofs.alike.may_be_counted.Goals as goal

pub returns : goal.returns
returns g c = λ d count denotes none counted. c.is_array_place.ensures d count counted
