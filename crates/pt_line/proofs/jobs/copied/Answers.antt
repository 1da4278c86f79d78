use Rattle.std.proofs.Common.{◌∙◌, ◌<◌, arith, length}
use Rattle.pt_line.proofs.Values.{one_more}
use Rattle.pt_line.proofs.jobs.copied.Goals as goal

pub loop-text-preserved : goal.loop-text-preserved
loop-text-preserved c =
    let at : c.loop-text.text-index < length c.args.texts.now = omega arith in
    c.in_ok-push.ensures.ok ∙ one_more c.args.texts.now c.loop-text.text-index _ c.loop-text.list at c.loop-text.invariant
