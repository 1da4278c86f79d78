use Rattle.std.proofs.Common.{◌≡◌, Ok, sym}
use Rattle.pt_recover.specs.Denotes.{reason_in}
use Rattle.pt_recover.proofs.Told.{found_reason, if_reason}
use Rattle.pt_recover.proofs.Whole.{trace_is}
use Rattle.pt_recover.proofs.recovery.read_layout.Goals as goal

pub returns-in-Ok-clause-traced : goal.returns-in-Ok-clause-traced
returns-in-Ok-clause-traced g c = λ tells.
    trace_is g.row.B (g.D.Disk.told c.args.disk.now).seen c.new-trace.result c.recover_into.new.trace c.new-trace.ensures
    (c.in-Ok.ensures.traced tells)

pub returns-in_ok-reason-in-Err-clause-found : goal.returns-in_ok-reason-in-Err-clause-found
returns-in_ok-reason-in-Err-clause-found g c = λ tells.
    let is : reason_in c.in-Err.error ≡ Ok c.in_ok-reason-in-Err.reason =
    sym c.in_ok-reason-in-Err.ensures in
    found_reason g.row.B (g.D.Disk.told c.args.disk.now).seen c.in-Err.error c.in_ok-reason-in-Err.reason is (c.in-Err.ensures.err tells)

pub returns-in_ok-reason-in-Err-clause-traced : goal.returns-in_ok-reason-in-Err-clause-traced
returns-in_ok-reason-in-Err-clause-traced g c = λ tells.
    let is : reason_in c.in-Err.error ≡ Ok c.in_ok-reason-in-Err.reason =
    sym c.in_ok-reason-in-Err.ensures in
    trace_is g.row.B (g.D.Disk.told c.args.disk.now).seen c.new-trace.result c.recover_into.new.trace c.new-trace.ensures
    (if_reason c.in-Err.error c.in_ok-reason-in-Err.reason is (c.in-Err.ensures.traced_err tells))
