use Rattle.std.proofs.Common.{◌≤◌, length}
use Rattle.pt_replay.proofs.FirstPlaces.{LeadsFrom}
use Rattle.pt_replay.proofs.index.places_of.Given as goal

abbrev pub invariant-places : goal.invariant-places
invariant-places l = record { within : l.k ≤ length l.numbers; leads : LeadsFrom l.k l.numbers l.places }

abbrev pub decreases-places : goal.decreases-places
decreases-places l = l.k
