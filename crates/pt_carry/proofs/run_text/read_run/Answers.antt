use Rattle.std.proofs.Common.{sym}
use Rattle.pt_carry.proofs.RunLines.{no_run}
use Rattle.pt_carry.proofs.run_text.read_run.Goals as goal

pub returns-in_err-first : goal.returns-in_err-first
returns-in_err-first c = rw c.from_residual.ensures (sym (no_run c.args.line.now c.in_err-first.ensures.cases))
