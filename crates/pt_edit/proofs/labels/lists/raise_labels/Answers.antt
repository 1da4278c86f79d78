use Rattle.std.proofs.Common.{◌<◌, length, arith}
use Rattle.pt_edit.specs.SliceLabels.{raised_as}
use Rattle.pt_edit.proofs.Changed.{change_here}
use Rattle.pt_edit.proofs.labels.lists.raise_labels.Goals as goal

pub loop-k-preserved : goal.loop-k-preserved
loop-k-preserved c =
    let within : c.loop-k.k < length c.into_vec-items.result.items = omega arith in
    change_here (raised_as c.args.number) c.into_vec-items.result.items c.loop-k.items.items c.loop-k.k c.index.result.now
    c.raised.result within c.loop-k.invariant c.index.ensures c.raised.ensures
