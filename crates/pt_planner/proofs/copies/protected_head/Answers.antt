use Rattle.std.proofs.Common.{◌∙◌, sym}
use Rattle.pt_cases.proofs.Guards.{boot_kept}
use Rattle.pt_planner.proofs.copies.protected_head.Goals as goal

pub returns : goal.returns
returns g c = record {
  protective = c.protective.ensures.protective;
  other = c.protective.ensures.other;
  boot = boot_kept c.args.head.now c.protective.result (c.protective.type_inv.1.1.0.1 ∙ sym c.told-head) c.protective.ensures.other;
}
