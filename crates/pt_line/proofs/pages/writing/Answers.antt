use Rattle.std.proofs.lemmas.Result.{IfOk-weaker}
use Rattle.clap.specs.Words.{with_rule}
use Rattle.pt_line.specs.CommandLine as spec
use Rattle.pt_line.proofs.pages.writing.Goals as goal

pub returns : goal.returns
returns c =
    IfOk-weaker c.with_arg.result _ _ (λ r takes a made. takes (with_rule a spec.in_use) spec.no_lock
    (IfOk-weaker c.with_arg-page.result _ _ (λ q first. first a spec.in_use made c.in_use.ensures) c.with_arg-page.ensures)
    c.no_lock.ensures) c.with_arg.ensures
