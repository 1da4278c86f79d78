use Rattle.std.proofs.Common.{ℕ, List, sym, subst}
use Rattle.pt_sector.specs.Sectors.{Writes}
use Rattle.pt_cases.specs.Targets.{IsSplit}
use Rattle.pt_cases.specs.declared.targets.writes.Choice.TheVariants.{Loud}
use Rattle.pt_cases.specs.inner.Targets.{chosen_writes}
use Rattle.pt_cases.proofs.SplitsLemmas.{loud_not_one, only_one, split_one}
use Rattle.pt_cases.proofs.targets.writes.split_changes.Goals as goal

pub returns-in_ok-quiet-in-Some : goal.returns-in_ok-quiet-in-Some
returns-in_ok-quiet-in-Some g c = λ d tell.
    let loud : ℕ × List ℕ = (c.in-Some.loud.lba.0, c.in-Some.loud.bytes) in
    subst (λ (quiet : Writes). IsSplit d c.args.guarded.now c.args.targets.now quiet loud) (sym c.in_ok-quiet-in-Some.ensures)
    (split_one c.args.guarded c.args.targets.now c.requires loud
    (only_one (chosen_writes (Loud c.args.guarded) c.args.targets.now) loud c.in-Some.ensures) d tell)

pub returns-in-None : goal.returns-in-None
returns-in-None g c = loud_not_one c.args.targets.now c.requires c.args.guarded (sym c.in-None.ensures)
