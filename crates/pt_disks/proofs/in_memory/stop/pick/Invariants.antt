use Rattle.std.proofs.Common.{◌≡◌, drop}
use Rattle.pt_disks.specs.Memory.{pending_writes}
use Rattle.pt_disks.specs.Stops.{values, chosen}
use Rattle.pt_disks.proofs.in_memory.stop.pick.Given as goal

abbrev pub invariant-loop-write : goal.invariant-loop-write
invariant-loop-write g l =
    chosen l.into (values (pending_writes (drop l.write-index l.pending)) l.k) l.left ≡ chosen l.initial.into
    (values (pending_writes l.pending) l.k) l.choice
