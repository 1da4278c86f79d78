use Rattle.std.proofs.Common.{length}
use denote.Shadow.{shadow}
use denote.Text.{Utf8}
use Rattle.pt_apply.specs.inner.PlanTexts.{phases_read, last_read}
use Rattle.pt_apply.proofs.Growing.{IsReading}
use Rattle.pt_apply.proofs.read.read_plan.Given as goal

abbrev pub invariant-loop-line : goal.invariant-loop-line
invariant-loop-line g l = IsReading g.row.B l.fn.text l.rest l.number (phases_read l.partial) (last_read l.partial) × shadow (Utf8 l.rest)

abbrev pub decreases-loop-line : goal.decreases-loop-line
decreases-loop-line g l = length l.rest
