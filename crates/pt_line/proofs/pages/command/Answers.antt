use Rattle.std.proofs.lemmas.Result.{IfOk-weaker}
use Rattle.clap.specs.Walk.{texts}
use Rattle.pt_line.proofs.Alone.{reads_alone, reads_whole}
use Rattle.pt_line.proofs.pages.command.Goals as goal

pub returns-in-Some : goal.returns-in-Some
returns-in-Some c =
    IfOk-weaker c.alone.result _ _ (λ r is. reads_alone c.args.sizes c.in-Some.subcommand (texts c.args.words.now)
    (rw c.in-Some.is at c.named_first.ensures) r is) c.alone.ensures

pub returns-in-None : goal.returns-in-None
returns-in-None c = IfOk-weaker c.whole.result _ _ (λ r is. reads_whole c.args.sizes (texts c.args.words.now) r is) c.whole.ensures
