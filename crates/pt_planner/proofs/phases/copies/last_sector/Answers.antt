use Rattle.pt_planner.specs.Phases.{last_of}
use Rattle.pt_planner.proofs.Shapes.{closes_some}
use Rattle.pt_planner.proofs.phases.copies.last_sector.Goals as goal

pub returns-in-Some : goal.returns-in-Some
returns-in-Some g c =
    closes_some c.args.sectors c.args.head.now c.in-Some.head (last_of c.protecting.result) c.in-Some.is c.protecting.ensures
