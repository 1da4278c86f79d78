use Rattle.std.proofs.lemmas.Result.{IfOk-weaker}
use Rattle.clap.specs.Words.{with_rule}
use Rattle.pt_line.specs.CommandLine as spec
use Rattle.pt_line.proofs.pages.on_disk.Goals as goal

pub returns : goal.returns
returns c =
    IfOk-weaker c.with_arg.result _ _ (λ r takes a made. takes (with_rule a spec.device) (spec.sector_size c.args.sizes)
    (IfOk-weaker c.with_arg-page.result _ _ (λ q first. first a spec.device made c.device.ensures) c.with_arg-page.ensures)
    c.sector_size.ensures) c.with_arg.ensures
