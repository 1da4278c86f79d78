use Rattle.std.proofs.Common.{sym, subst, List}
use Rattle.pt_recover.specs.Spans.{Apart}
use Rattle.pt_recover.specs.declared.trace.TracedRun.{TracedRun}
use Rattle.pt_recover.proofs.Joined.{apart_none}
use Rattle.pt_recover.proofs.trace.Trace.new.Goals as goal

pub invariant_of-result : goal.invariant_of-result
invariant_of-result c = subst (λ (l : List TracedRun). Apart l) (sym c.new.ensures.items) apart_none
