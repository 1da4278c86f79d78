use Rattle.std.proofs.Common.{◌≡◌, drop}
use Rattle.pt_replay.specs.Wanted.{place_from}
use Rattle.pt_replay.proofs.index.first_place.Given as goal

abbrev pub invariant-loop-k : goal.invariant-loop-k
invariant-loop-k l = place_from 0 l.numbers l.number ≡ place_from l.k (drop l.k l.numbers) l.number
