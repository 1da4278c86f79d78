use Rattle.std.proofs.Common.{◌<◌, length, arith}
use Rattle.pt_edit.specs.SliceLabels.{relabelled_as}
use Rattle.pt_edit.proofs.Changed.{change_here}
use Rattle.pt_edit.proofs.labels.lists.put_label.Goals as goal

pub loop-k-preserved : goal.loop-k-preserved
loop-k-preserved c =
    let within : c.loop-k.k < length c.into_vec-items.result.items = omega arith in
    change_here (relabelled_as c.args.number c.args.label.now) c.into_vec-items.result.items c.loop-k.items.items c.loop-k.k
    c.index.result.now c.relabelled.result within c.loop-k.invariant c.index.ensures c.relabelled.ensures
