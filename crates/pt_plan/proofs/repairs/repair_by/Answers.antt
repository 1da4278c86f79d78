use Rattle.std.proofs.Common.{ap, sym}
use Rattle.pt_recover.proofs.Terms.{denotes_one_lem}
use Rattle.pt_plan.proofs.Mendable.{none_of_healthy}
use Rattle.pt_plan.proofs.Outcomes.{repaired}
use Rattle.pt_plan.specs.Wanted.{as_repair}
use Rattle.pt_plan.proofs.repairs.repair_by.Goals as goal

pub returns-in-Ok-clause-repairs : goal.returns-in-Ok-clause-repairs
returns-in-Ok-clause-repairs g c = λ tells.
    repaired _ _ _ _ _ _ _ _ (denotes_one_lem g.row.B) (none_of_healthy c.args.primary g.row.B) _ _ (g.met.D.Disk.may_be_seen _ tells) _
    (c.carry_out.ensures.written tells) _ (sym (ap as_repair c.in-Ok.is))

pub returns-in-Err-clause-repairs : goal.returns-in-Err-clause-repairs
returns-in-Err-clause-repairs g c = λ tells.
    rw c.told.ensures (repaired _ _ _ _ _ _ _ _ (denotes_one_lem g.row.B) (none_of_healthy c.args.primary g.row.B) _ _
    (g.met.D.Disk.may_be_seen _ tells) _ (c.carry_out.ensures.written tells) _ (sym (ap as_repair c.in-Err.is)))
