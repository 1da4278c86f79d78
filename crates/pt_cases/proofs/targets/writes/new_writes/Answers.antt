use Rattle.pt_cases.specs.declared.targets.writes.Choice.TheVariants.{UnreadNew}
use Rattle.pt_cases.proofs.Steps.{new_ok, new_below}
use Rattle.pt_cases.proofs.targets.writes.new_writes.Goals as goal

pub returns-clause-new : goal.returns-clause-new
returns-clause-new g c = new_ok c.args.targets.now c.requires c.args.guarded c.chosen_writes.result c.chosen_writes.ensures

pub returns-clause-in_range : goal.returns-clause-in_range
returns-clause-in_range g c =
    new_below (UnreadNew c.args.guarded) c.args.targets.now c.chosen_writes.result c.chosen_writes.ensures
