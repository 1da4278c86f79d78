use Rattle.pt_cases.proofs.Causes.{plan_may_be}
use Rattle.pt_cases.proofs.Planned.{planned_fits, planned_readable}
use Rattle.pt_cases.proofs.exact.planned_fits_its_disk.Goals as goal

pub returns : goal.returns
returns c = record {
  body = plan_may_be;
  labels = planned_fits;
  readable = planned_readable;
}
