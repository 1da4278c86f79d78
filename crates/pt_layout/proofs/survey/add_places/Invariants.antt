use Rattle.std.proofs.Common.{drop}
use Rattle.pt_members.specs.Members.{IsPlace}
use Rattle.pt_recover.proofs.Traces.{Left}
use Rattle.pt_layout.proofs.survey.add_places.Given as goal

abbrev pub invariant-loop-k : goal.invariant-loop-k
invariant-loop-k l = Left l.fn.places l.places (IsPlace l.slices) (IsPlace (drop l.k l.slices))
