use Rattle.std.proofs.Common.{◌<◌, length, arith}
use Rattle.pt_edit.specs.SliceLabels.{lowered_as}
use Rattle.pt_edit.proofs.Changed.{change_here}
use Rattle.pt_edit.proofs.labels.lists.lower_labels.Goals as goal

pub loop-k-preserved : goal.loop-k-preserved
loop-k-preserved c =
    let within : c.loop-k.k < length c.without-items.result.items = omega arith in
    change_here (lowered_as c.args.number) c.without-items.result.items c.loop-k.items.items c.loop-k.k c.index.result.now
    c.lowered.result within c.loop-k.invariant c.index.ensures c.lowered.ensures
