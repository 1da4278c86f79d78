use Rattle.std.specs.Prelude.{◌⊎◌}
use Rattle.std.proofs.lemmas.Result.{on_ok_weaker, IfErr-weaker}
use Rattle.pt_recover.specs.Denotes.{IsOutsideDisk, IsTraceOf, Reads}
use Rattle.pt_recover.specs.Spans.{Adds}
use Rattle.pt_recover.proofs.Whole.{trace_is, trace_or}
use Rattle.pt_recover.proofs.recovery.recover_traced.Goals as goal

pub returns-clause-traced : goal.returns-clause-traced
returns-clause-traced g c = λ tells.
    on_ok_weaker c.recover_into-answer.result
    (λ adds. trace_is g.row.B
    (g.D.Disk.told c.args.disk.now).seen c.new-trace.result c.recover_into-answer.new.trace c.new-trace.ensures adds)
    (c.recover_into-answer.ensures.traced tells)

pub returns-clause-traced_err : goal.returns-clause-traced_err
returns-clause-traced_err g c = λ tells.
    IfErr-weaker c.recover_into-answer.result (λ e. IsOutsideDisk e
    ⊎ Adds c.new-trace.result c.recover_into-answer.new.trace (Reads g.row.B (g.D.Disk.told c.args.disk.now).seen))
    (λ e. IsOutsideDisk e ⊎ IsTraceOf g.row.B (g.D.Disk.told c.args.disk.now).seen c.recover_into-answer.new.trace)
    (λ e adds. trace_or (IsOutsideDisk e) g.row.B
    (g.D.Disk.told c.args.disk.now).seen c.new-trace.result c.recover_into-answer.new.trace c.new-trace.ensures adds)
    (c.recover_into-answer.ensures.traced_err tells)
